-- The discounted reward of name r as a stochastic shortest path problem (Bertsekas and Tsitsiklis 1991): with a discount factor f a process stops in
-- each step with probability 1 - f. The states are nodes, each of which goes on by all its choices, and there is one node more, which is worth 0:
-- a choice leads by its row with f times the probabilities, and to that node with what is left.
use Rattle.std.specs.{Prelude.{ℕ, Bool, true, not, ◌&&◌, List, [], ◌∷◌, ◌++◌, length, map, None, if◌then◌else◌, pos}, List.{filter, list_all, range_with_len}}
use Rattle.std.specs.Option.{is_some}
use Rattle.mdp_math.specs.{Rational.{ℚ, of_int, ◌*ℚ◌, ◌-ℚ◌}, Written.{written_mul}}
use Rattle.mdp_num.specs.{Equal.{eq_ℚ}, Written.{written_sub}}
use Rattle.mdp_spec.specs.{Mdp.{Entry, Mdp, states_of, choices_at, choice_at, row_at, value_at}, Unit.{reward_of}}
use Rattle.mdp_rows.specs.declared.dir.Dir.{Dir}
use Rattle.mdp_policy_iteration.specs.Problem.{Problem, Node, given, decision, Choice, go}
use Rattle.mdp_discount_rules.specs.Checks.{written_discounted}

abbrev pub 0ℚ : ℚ
0ℚ = of_int (pos 0)

abbrev pub 1ℚ : ℚ
1ℚ = of_int (pos 1)

-- ---- rows

-- an entry whose probability is taken f times
abbrev pub scaled : ℚ → Entry → Entry
scaled f e = record { target = e.target; prob = f *ℚ e.prob }

abbrev pub has_value : Entry → Bool
has_value e = not (eq_ℚ e.prob 0ℚ)

-- what is left of 1, to node n
abbrev pub left_over : ℕ → ℚ → Entry
left_over n f = record { target = n; prob = 1ℚ -ℚ f }

-- a row taken f times, without entries of value 0
abbrev pub scaled_entries : ℚ → List Entry → List Entry
scaled_entries f row = filter has_value (map (scaled f) row)

-- and what is left to node n
abbrev pub discounted_row : ℕ → ℚ → List Entry → List Entry
discounted_row n f row = scaled_entries f row ++ left_over n f ∷ []

-- whether its terms are in width
abbrev pub products_fit : ℚ → List Entry → Bool
products_fit f row = list_all (λ e. is_some (written_mul f e.prob)) row

abbrev pub row_fits : ℚ → List Entry → Bool
row_fits f row = products_fit f row && is_some (written_sub 1ℚ f)

-- ---- the problem

-- choice c at state s; of values under which the node behind the states isn't worth 0 nothing is asked
abbrev pub discount_choice : Mdp → ℕ → ℚ → ℕ → ℕ → Choice
discount_choice m r f s c = record {
  candidate = true;
  move = go (reward_of (choice_at m s c) r) (discounted_row (states_of m) f (row_at m s c));
  fits = row_fits f (row_at m s c);
  written = λ v. if eq_ℚ (value_at v (states_of m)) 0ℚ then written_discounted m r f s c v else None;
}

abbrev pub discount_node : Mdp → ℕ → ℚ → ℕ → Node
discount_node m r f s = decision (map (discount_choice m r f s) (range_with_len 0 (length (choices_at m s))))

-- the states, and the node behind them
abbrev pub discount_problem : Dir → Mdp → ℕ → ℚ → Problem
discount_problem dir m r f = record { dir = dir; nodes = map (discount_node m r f) (range_with_len 0 (states_of m)) ++ given 0ℚ ∷ [] }
