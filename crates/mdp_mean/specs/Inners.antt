-- The best gains of the end components of a model, with a bias and a choice for each state in one.
use Rattle.std.specs.Prelude.{◌≡◌, ℕ, ◌<◌, true, List, length, Option, None, slice_index, Result, Ok, Err, pos}
use Rattle.mdp_math.specs.Rational.{ℚ, of_int}
use Rattle.mdp_spec.specs.Mdp.{Mdp, states_of, value_at}
use Rattle.mdp_rows.specs.declared.dir.Dir.{Dir}
use Rattle.mdp_ends.specs.Ends.{part_of, in_part, count_of}
use Rattle.mdp_wide.specs.Term.{WideTerm}
use Rattle.mdp_gain.specs.{Query.{Answer}, Best.{bias_at, taken_at}}
use Rattle.mdp_gain.specs.Query as inner

-- a gain for each end component; a bias and a choice for each state, 0 at states that are in none
pub record Inners : Type 0 where
  pub gains : List ℚ
  pub bias : List ℚ
  pub choices : List ℕ

-- of end component i they are those of this answer
pub record AreAnswers (m : Mdp) (parts : List (Option ℕ)) (i : ℕ) (a : Answer) (x : Inners) : Type 0 where
  pub gain : value_at x.gains i ≡ a.gain
  pub bias : (s : ℕ) → s < states_of m → in_part parts i s ≡ true → value_at x.bias s ≡ bias_at a s
  pub choices : (s : ℕ) → s < states_of m → in_part parts i s ≡ true → slice_index x.choices s ≡ taken_at a s

-- end component i is solved
abbrev pub Answered : Dir → Mdp → List (Option ℕ) → ℕ → ℕ → Inners → Type 0
Answered dir m parts r i x = (a : Answer) × inner.EndsSo dir m parts i r (Ok a) × AreAnswers m parts i a x

-- the first n end components are solved
pub record AreInners (dir : Dir) (m : Mdp) (parts : List (Option ℕ)) (r n : ℕ) (x : Inners) : Type 0 where
  pub gain_each : length x.gains ≡ n
  pub bias_each : length x.bias ≡ states_of m
  pub choice_each : length x.choices ≡ states_of m
  pub answered : (i : ℕ) → i < n → Answered dir m parts r i x
  pub no_bias : (s : ℕ) → s < states_of m → part_of parts s ≡ None → value_at x.bias s ≡ of_int (pos 0)
  pub no_choice : (s : ℕ) → s < states_of m → part_of parts s ≡ None → slice_index x.choices s ≡ 0

-- end component i has a term past width, and each one before it has an answer
pub record IsRefused (dir : Dir) (m : Mdp) (parts : List (Option ℕ)) (r i : ℕ) (w : WideTerm) : Type 0 where
  pub below : i < count_of parts
  pub before : (k : ℕ) → k < i → (a : Answer) × inner.EndsSo dir m parts k r (Ok a)
  pub here : inner.EndsSo dir m parts i r (Err w)

-- all are solved, or the first that has a term past width ends it
abbrev pub InnersEndSo : Dir → Mdp → List (Option ℕ) → ℕ → Result Inners WideTerm → Type 0
InnersEndSo dir m parts r (Ok x) = AreInners dir m parts r (count_of parts) x
InnersEndSo dir m parts r (Err w) = (i : ℕ) × IsRefused dir m parts r i w
