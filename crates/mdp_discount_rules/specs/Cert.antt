-- A certificate of the discounted reward: what is claimed of a model, and the values, the policy and the remainder that show it.
use Rattle.std.specs.{Prelude.{◌≡◌, ℕ, ◌<◌, ◌≤◌, ◌^◌, Bool, true, false, List, length, nat_lt, IsTrue}, List.{All}}
use Rattle.mdp_math.specs.Rational.{ℚ}
use Rattle.mdp_num.specs.Value.{IsNarrow}
use Rattle.mdp_rows.specs.{Name.{is_name}, declared.dir.Dir.{Dir}}
use Rattle.mdp_text.specs.{declared.init.Init.{Init}, declared.init.Init.TheVariants.{Missing, Finite, Infinite, Start}}
use Rattle.mdp_discount_rules.specs.Rules.{IsFactor}

pub record Certificate : Type 0 where
  pub dir : Dir
  -- the reward name
  pub name : List ℕ
  pub factor : ℚ
  pub init : Init
  pub remainder : ℚ
  pub values : List ℚ
  pub choices : List ℕ

-- the initial state is one of so many states, and its value is a number
abbrev pub is_init : ℕ → Init → Bool
is_init states Missing = true
is_init states (Finite s value) = nat_lt s states
is_init states (Infinite s) = false
is_init states (Start s) = false

abbrev pub IsInitNarrow : Init → Type 0
IsInitNarrow Missing = Unit {0}
IsInitNarrow (Finite s value) = IsNarrow value
IsInitNarrow (Infinite s) = ⊥
IsInitNarrow (Start s) = ⊥

-- the certificates that have a text: of 1 to 2^20 states with a value and a choice each, all numbers in width
pub record Fits (c : Certificate) : Type 0 where
  pub some : 0 < length c.values
  pub limit : length c.values ≤ 2 ^ 20
  pub one_each : length c.choices ≡ length c.values
  pub named : IsTrue (is_name c.name)
  pub discount : IsFactor c.factor
  pub inside : IsTrue (is_init (length c.values) c.init)
  pub factor_width : IsNarrow c.factor
  pub init_width : IsInitNarrow c.init
  pub remainder_width : IsNarrow c.remainder
  pub values_width : All IsNarrow c.values
  pub choices_width : All (λ c. c < 2 ^ 32) c.choices
