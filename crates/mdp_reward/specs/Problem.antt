-- The reward until a goal as a stochastic shortest path problem (Bertsekas and Tsitsiklis 1991). A state is transient where its value is finite and it
-- is no goal: it goes on by each of its choices, and earns the choice's reward. Goals and states of infinite value are worth 0. No policy comes
-- from a transient state to one of infinite value: where the least reward is meant, the candidates are the choices whose successors all have finite
-- values, and where the greatest is meant, all choices are of that kind.
use Rattle.std.specs.{Prelude.{ℕ, Bool, true, false, not, ◌&&◌, List, length, map, pos}, List.{range_with_len}}
use Rattle.mdp_math.specs.Rational.{of_int}
use Rattle.mdp_spec.specs.{Mdp.{Mdp, Entry, states_of, choices_at, choice_at, row_at}, Unit.{reward_of}, Tree.{is_marked}}
use Rattle.mdp_rows.specs.{declared.dir.Dir.{Dir}, declared.dir.Dir.TheVariants.{Max, Min}}
use Rattle.mdp_graph.specs.Sets.{stays_in}
use Rattle.mdp_policy_iteration.specs.Problem.{Problem, Node, given, decision, Choice, go, plain}

-- whether a policy may take a choice of this row
abbrev pub may_take : Dir → List Bool → List Entry → Bool
may_take Max finite row = true
may_take Min finite row = stays_in (is_marked finite) row

-- choice c of state s
abbrev pub going : Dir → Mdp → ℕ → List Bool → ℕ → ℕ → Choice
going dir m r finite s c = plain (may_take dir finite (row_at m s c)) (go (reward_of (choice_at m s c) r) (row_at m s c))

-- state s, by whether it is transient
abbrev pub node_by : Dir → Mdp → ℕ → List Bool → ℕ → Bool → Node
node_by dir m r finite s true = decision (map (going dir m r finite s) (range_with_len 0 (length (choices_at m s))))
node_by dir m r finite s false = given (of_int (pos 0))

abbrev pub is_transient : List Bool → List Bool → ℕ → Bool
is_transient goals finite s = not (is_marked goals s) && is_marked finite s

abbrev pub reward_node : Dir → Mdp → ℕ → List Bool → List Bool → ℕ → Node
reward_node dir m r goals finite s = node_by dir m r finite s (is_transient goals finite s)

abbrev pub reward_problem : Dir → Mdp → ℕ → List Bool → List Bool → Problem
reward_problem dir m r goals finite = record { dir = dir; nodes = map (reward_node dir m r goals finite) (range_with_len 0 (states_of m)) }
