-- Two stochastic shortest path problems (Bertsekas and Tsitsiklis 1991) over the nodes of a quotient, and where policy iteration starts.
use Rattle.std.specs.{Prelude.{ℕ, Bool, true, false, ◌==◌, List, ◌∷◌, length, map, Option, Some, None, slice_index_or, pos}, List.{range_with_len}}
use Rattle.std.specs.Option.{is_some}
use Rattle.mdp_math.specs.Rational.{ℚ, of_int}
use Rattle.mdp_spec.specs.Mdp.{value_at}
use Rattle.mdp_rows.specs.{declared.dir.Dir.{Dir}, declared.dir.Dir.TheVariants.{Max}}
use Rattle.mdp_policy_iteration.specs.Problem.{Problem, Node, given, decision, Choice, stop, go, plain}
use Rattle.mdp_quot.specs.Quotient.{Quotient, exits_at, row_of}

-- one entry for each node
abbrev pub each_node : {A : Type 0} → Quotient → (ℕ → A) → List A
each_node q f = map f (range_with_len 0 (length q.exits))

-- ---- the greatest expected number of exits that are taken before a node without exits

-- exit i of node k: it earns 1 and goes on by its row
abbrev pub counted : Quotient → ℕ → ℕ → Choice
counted q k i = plain true (go (of_int (pos 1)) (row_of q k i))

-- node k, by whether it has no exits
abbrev pub steps_by : Quotient → ℕ → Bool → Node
steps_by q k true = given (of_int (pos 0))
steps_by q k false = decision (map (counted q k) (range_with_len 0 (length (exits_at q k))))

abbrev pub steps_node : Quotient → ℕ → Node
steps_node q k = steps_by q k (length (exits_at q k) == 0)

abbrev pub steps_problem : Quotient → Problem
steps_problem q = record { dir = Max; nodes = each_node q (steps_node q) }

-- from exit 0 of each node
abbrev pub steps_start : Quotient → List ℕ
steps_start q = each_node q (λ k. 0)

-- ---- the best gain that can be come to, where a node that is an end component may stop with its gain

abbrev pub component_of : Quotient → ℕ → Option ℕ
component_of q k = slice_index_or q.components k None

-- the gain of an end component
abbrev pub gain_of : List ℚ → Option ℕ → ℚ
gain_of gains None = of_int (pos 0)
gain_of gains (Some i) = value_at gains i

-- to stop, which only an end component can
abbrev pub stopping : List ℚ → Option ℕ → Choice
stopping gains component = plain (is_some component) (stop (gain_of gains component))

-- exit i of node k: it earns nothing and goes on by its row
abbrev pub leaving : Quotient → ℕ → ℕ → Choice
leaving q k i = plain true (go (of_int (pos 0)) (row_of q k i))

-- choice 0 stops, choice 1 + i takes exit i
abbrev pub outer_node : Quotient → List ℚ → ℕ → Node
outer_node q gains k = decision (stopping gains (component_of q k) ∷ map (leaving q k) (range_with_len 0 (length (exits_at q k))))

abbrev pub outer_problem : Dir → Quotient → List ℚ → Problem
outer_problem dir q gains = record { dir = dir; nodes = each_node q (outer_node q gains) }

-- an end component stops, any other node takes its first exit
abbrev pub first_choice : Option ℕ → ℕ
first_choice None = 1
first_choice (Some i) = 0

abbrev pub outer_start : Quotient → List ℕ
outer_start q = each_node q (λ k. first_choice (component_of q k))
