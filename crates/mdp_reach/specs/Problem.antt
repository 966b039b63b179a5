-- Reaching a goal as a stochastic shortest path problem. A goal is worth 1. Any other state is open, or it is worth 0: for the greatest
-- probability those are open from which a goal can be reached, for the least one those at which goals can't be avoided. An open state goes on by
-- each of its choices, and earns nothing.
use Rattle.std.specs.{Prelude.{ℕ, Bool, true, false, not, List, length, map, pos}, List.{range_with_len}}
use Rattle.mdp_math.specs.Rational.{of_int}
use Rattle.mdp_spec.specs.{Mdp.{Mdp, states_of, choices_at, row_at}, Tree.{is_marked}}
use Rattle.mdp_rows.specs.{declared.dir.Dir.{Dir}, declared.dir.Dir.TheVariants.{Max, Min}}
use Rattle.mdp_policy_iteration.specs.Problem.{Problem, Node, given, decision, Choice, go, plain}

-- whether a state that is no goal is open: by the mark that a goal can be reached, or that goals can be avoided
abbrev pub is_open : Dir → Bool → Bool
is_open Max can_reach = can_reach
is_open Min can_avoid = not can_avoid

-- choice c of state s
abbrev pub going : Mdp → ℕ → ℕ → Choice
going m s c = plain true (go (of_int (pos 0)) (row_at m s c))

-- state s, by whether it is a goal and whether it is open
abbrev pub node_by : Mdp → ℕ → Bool → Bool → Node
node_by m s true is_open_state = given (of_int (pos 1))
node_by m s false true = decision (map (going m s) (range_with_len 0 (length (choices_at m s))))
node_by m s false false = given (of_int (pos 0))

abbrev pub reach_node : Dir → Mdp → List Bool → List Bool → ℕ → Node
reach_node dir m goals marks s = node_by m s (is_marked goals s) (is_open dir (is_marked marks s))

abbrev pub reach_problem : Dir → Mdp → List Bool → List Bool → Problem
reach_problem dir m goals marks = record { dir = dir; nodes = map (reach_node dir m goals marks) (range_with_len 0 (states_of m)) }
