-- The words of each claim behind the number of a state.
use Rattle.std.specs.Prelude.{ℕ, List}
use Rattle.mdp_math.specs.Rational.{ℚ}
use Rattle.mdp_num.specs.Value.{IsNarrow}
use Rattle.mdp_cert.specs.{Runs.{Columns}, Claims.{Value, fraction_value}, declared.pair.Pair.{Pair}}
use Rattle.mdp_cert.specs.Pairs.{IsShort, number_value, word_columns, pair_columns, IsPairInWidth, pairs}

-- ---- an upper bound: V

abbrev pub bound_columns : Columns ℚ
bound_columns = word_columns fraction_value

-- ---- a value, a choice and a rank: V CHOICE RANK

abbrev pub Policy : Type 0 → Type 0
Policy V = Pair V (Pair ℕ ℕ)

abbrev pub policy_columns : {V : Type 0} → Value V → Columns (Policy V)
policy_columns k = pair_columns k (pair_columns number_value (word_columns number_value))

abbrev pub IsPolicyInWidth : {V : Type 0} → (V → Type 0) → Policy V → Type 0
IsPolicyInWidth IsInWidth x = IsPairInWidth IsInWidth (IsPairInWidth IsShort IsShort) x

-- the entries of three lists
abbrev pub policies : {V : Type 0} → List V → List ℕ → List ℕ → List (Policy V)
policies values choices ranks = pairs values (pairs choices ranks)

-- ---- a gain, a bound, a bias and a choice: GAIN BOUND BIAS CHOICE

abbrev pub Mean : Type 0
Mean = Pair ℚ (Pair ℚ (Pair ℚ ℕ))

abbrev pub mean_columns : Columns Mean
mean_columns = pair_columns fraction_value (pair_columns fraction_value (pair_columns fraction_value (word_columns number_value)))

abbrev pub IsMeanInWidth : Mean → Type 0
IsMeanInWidth x = IsPairInWidth IsNarrow (IsPairInWidth IsNarrow (IsPairInWidth IsNarrow IsShort)) x

-- the entries of four lists
abbrev pub means : List ℚ → List ℚ → List ℚ → List ℕ → List Mean
means gain bound bias choices = pairs gain (pairs bound (pairs bias choices))

-- ---- of bounds: one value more, which stands first

abbrev pub Ranked : Type 0 → Type 0
Ranked V = Pair V (Policy V)

abbrev pub ranked_columns : {V : Type 0} → Value V → Columns (Ranked V)
ranked_columns k = pair_columns k (policy_columns k)

abbrev pub IsRankedInWidth : {V : Type 0} → (V → Type 0) → Ranked V → Type 0
IsRankedInWidth IsInWidth x = IsPairInWidth IsInWidth (IsPairInWidth IsInWidth (IsPairInWidth IsShort IsShort)) x

abbrev pub ranked_of : {V : Type 0} → List V → List V → List ℕ → List ℕ → List (Ranked V)
ranked_of lower upper choices ranks = pairs lower (policies upper choices ranks)

abbrev pub Gains : Type 0
Gains = Pair ℚ Mean

abbrev pub gains_columns : Columns Gains
gains_columns = pair_columns fraction_value mean_columns

abbrev pub IsGainsInWidth : Gains → Type 0
IsGainsInWidth x = IsPairInWidth IsNarrow (IsPairInWidth IsNarrow (IsPairInWidth IsNarrow (IsPairInWidth IsNarrow IsShort))) x

abbrev pub gains_of : List ℚ → List ℚ → List ℚ → List ℚ → List ℕ → List Gains
gains_of lower upper bound bias choices = pairs lower (means upper bound bias choices)
