-- A certificate of bounds of the discounted reward: what is claimed of a model, and the values, the policy and the remainder that show it.
use Rattle.std.specs.{Prelude.{◌≡◌, ℕ, ◌<◌, ◌≤◌, ◌^◌, Bool, true, List, length, nat_lt, Option, Some, None, IfSome, IsTrue}, List.{All}}
use Rattle.mdp_math.specs.Rational.{ℚ}
use Rattle.mdp_num.specs.Value.{IsNarrow}
use Rattle.mdp_rows.specs.{Name.{is_name}, declared.dir.Dir.{Dir}}
use Rattle.mdp_discount_rules.specs.Rules.{IsFactor}
use Rattle.mdp_discount_rules.specs.declared.bounds_init.InitialBounds.{InitialBounds}

pub record Certificate : Type 0 where
  pub dir : Dir
  -- the reward name
  pub name : List ℕ
  pub factor : ℚ
  pub init : Option InitialBounds
  pub remainder : ℚ
  pub lower : List (Option ℚ)
  pub upper : List (Option ℚ)
  pub choices : List ℕ

-- the initial state is one of so many states
abbrev pub is_init : ℕ → Option InitialBounds → Bool
is_init states None = true
is_init states (Some init) = nat_lt init.state states

-- a value is in width, where it is there
abbrev pub IsValueNarrow : Option ℚ → Type 0
IsValueNarrow x = IfSome x IsNarrow

-- the certificates that have a text: of 1 to 2^20 states with two values and a choice each, all numbers in width
pub record Fits (c : Certificate) : Type 0 where
  pub some : 0 < length c.lower
  pub limit : length c.lower ≤ 2 ^ 20
  pub one_above : length c.upper ≡ length c.lower
  pub one_each : length c.choices ≡ length c.lower
  pub named : IsTrue (is_name c.name)
  pub discount : IsFactor c.factor
  pub inside : IsTrue (is_init (length c.lower) c.init)
  pub factor_width : IsNarrow c.factor
  pub init_width : IfSome c.init (λ i. IsValueNarrow i.lower × IsValueNarrow i.upper)
  pub remainder_width : IsNarrow c.remainder
  pub lower_width : All IsValueNarrow c.lower
  pub upper_width : All IsValueNarrow c.upper
  pub choices_width : All (λ c. c < 2 ^ 32) c.choices
