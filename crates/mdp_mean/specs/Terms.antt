-- The written terms by which values of end components and of the quotient's nodes are put together for all states. At each state stand the gain of its
-- node, the greatest expected number of exits from its node, and the bias in its end component, 0 where it is in none.
use Rattle.std.specs.Prelude.{ℕ, Bool, true, false, List, [], ◌∷◌, Option, Some}
use Rattle.mdp_math.specs.{Rational.{ℚ}, Written.{written_add, written_mul, ◌>>=◌}}
use Rattle.mdp_num.specs.Written.{written_sub}
use Rattle.mdp_spec.specs.{Mdp.{Mdp, choice_at, row_at, value_at}, Unit.{reward_of}, Written.{written_sum}}
use Rattle.mdp_policy_iteration.specs.Path.{outer}
use Rattle.mdp_farkas.specs.{Compare.{0ℚ}, Spread.{written_best}}
use Rattle.mdp_rows.specs.{declared.dir.Dir.{Dir}, declared.dir.Dir.TheVariants.{Max, Min}}

-- what is put together: the number of each state's end component, the policy of all states, and which of them are active: those whose node takes an exit
pub record Joining : Type 0 where
  pub dir : Dir
  pub model : Mdp
  pub name : ℕ
  pub parts : List (Option ℕ)
  pub policy : List ℕ
  pub active : List Bool
  pub gains : List ℚ
  pub steps : List ℚ
  pub inner : List ℚ

abbrev pub reward_at : Joining → ℕ → ℕ → ℚ
reward_at j s c = reward_of (choice_at j.model s c) j.name

-- the constant of an active state's equation for the bias: the reward less the gain, and the sum over its entries to states that aren't active
abbrev pub constant_by : Joining → ℕ → ℕ → Bool → Option ℚ
constant_by j s c false = Some 0ℚ
constant_by j s c true = written_sub (reward_at j s c) (value_at j.gains s) >>= λ earned. written_sum j.inner earned (outer j.active (row_at j.model s c))

-- how much one number is above another for Max, below it for Min
abbrev pub excess_over : Dir → ℚ → ℚ → Option ℚ
excess_over Max u w = written_sub u w
excess_over Min u w = written_sub w u

-- how much more choice c of state s earns by the inner bias than the gain and the inner bias
abbrev pub excess_at : Joining → ℕ → ℕ → Option ℚ
excess_at j s c =
    written_sum j.inner (reward_at j s c) (row_at j.model s c) >>= λ u. written_add (value_at j.gains s) (value_at j.inner s) >>= λ w. excess_over j.dir u w

-- the greater one of that and the excess d so far
abbrev pub greater_excess : Joining → ℕ → ℕ → ℚ → Option ℚ
greater_excess j s c d = excess_at j s c >>= λ e. written_best Max d (e ∷ [])

-- above for Max, below for Min
abbrev pub written_moved : Dir → ℚ → ℚ → Option ℚ
written_moved Max h x = written_add h x
written_moved Min h x = written_sub h x

-- the inner bias, moved by the excess for each step
abbrev pub bound_by : Joining → ℚ → ℕ → Option ℚ
bound_by j d s = written_mul d (value_at j.steps s) >>= λ x. written_moved j.dir (value_at j.inner s) x
