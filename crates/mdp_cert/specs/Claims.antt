-- Values that are one word.
use Rattle.std.specs.Prelude.{ℕ, Bool, true, false, List, codes, Option, Some, None}
use Rattle.mdp_math.specs.Rational.{ℚ}
use Rattle.mdp_num.specs.{Value.{spelling}, Canonical.{canonical_of}, Equal.{eq_ℚ}}
use Rattle.mdp_text.specs.Words.{reward_parse}

-- what a word says (nothing where it isn't such a value), how a value is spelled, and whether two values are the same
pub record Value (A : Type 0) : Type 0 where
  pub parse : List ℕ → Option A
  pub spell : A → List ℕ
  pub same : A → A → Bool

-- a fraction
abbrev pub fraction_value : Value ℚ
fraction_value = record { parse = canonical_of; spell = spelling; same = eq_ℚ }

-- a fraction, or `inf`
abbrev pub reward_text : Option ℚ → List ℕ
reward_text None = codes "inf"
reward_text (Some value) = spelling value

abbrev pub reward_same : Option ℚ → Option ℚ → Bool
reward_same None None = true
reward_same (Some x) (Some y) = eq_ℚ x y
reward_same x y = false

abbrev pub reward_value : Value (Option ℚ)
reward_value = record { parse = reward_parse; spell = reward_text; same = reward_same }
