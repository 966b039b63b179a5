-- What a policy is judged by over a number of steps. By its first step each objective goes alike: it stops at some states, and at any other
-- state a choice earns at once and then by the steps that are left.
use Rattle.std.specs.Prelude.{ℕ, Bool, List, Option, Some, None, pos, if◌then◌else◌}
use Rattle.mdp_math.specs.Rational.{ℚ, of_int}
use Rattle.mdp_spec.specs.{Mdp.{Choice, Mdp, choice_at}, Unit.{reward_of}, Tree.{Tree, is_marked}, Pay.{total as total_of}}
use Rattle.mdp_spec.specs.Until.{until as until_of}

-- the probability of coming to a goal by way of states that stay, or the total reward of the name of this place
pub data Objective : Type 0 where
  until : List Bool → List Bool → Objective
  total : ℕ → Objective

-- the value of a state at which nothing more happens: 1 at a goal, 0 at any other state that doesn't stay
abbrev pub stops : Mdp → Objective → ℕ → Option ℚ
stops m (until stay goals) s = if is_marked goals s then Some (of_int (pos 1)) else if is_marked stay s then None else Some (of_int (pos 0))
stops m (total r) s = None

-- the value of a state with no step left
abbrev pub ending : Mdp → Objective → ℕ → ℚ
ending m (until stay goals) s = if is_marked goals s then of_int (pos 1) else of_int (pos 0)
ending m (total r) s = of_int (pos 0)

-- what a choice earns at once
abbrev pub gain_of : Objective → Choice → ℚ
gain_of (until stay goals) x = of_int (pos 0)
gain_of (total r) x = reward_of x r

-- what choice c of state s does
abbrev pub earns : Mdp → Objective → ℕ → ℕ → ℚ
earns m o s c = gain_of o (choice_at m s c)

-- what a tree of depth n and mixing total u comes to from state s
abbrev pub value_of : Mdp → Objective → ℕ → ℕ → Tree → ℕ → ℚ
value_of m (until stay goals) u n t s = until_of m stay goals u n t s
value_of m (total r) u n t s = total_of m r u n t s
