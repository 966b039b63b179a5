-- The quotient of a model by its end components: its nodes, their exits, and the rows of exits over nodes.
use Rattle.std.specs.Prelude.{◌≡◌, ℕ, ◌<◌, ◌↔◌, ◌⊎◌, Bool, true, ◌&&◌, ◌==◌, not, cond, List, length, map, filter, Option, Some, pos, slice_index}
use Rattle.std.specs.List.{range_with_len}
use Rattle.mdp_math.specs.{Rational.{ℚ, of_int, le_ℚ}, Sum.{sum_of}}
use Rattle.mdp_spec.specs.Mdp.{Entry, Mdp, states_of, row_at}
use Rattle.mdp_rows.specs.{declared.preds.Pred.{Pred}, Preds.{choices_below}}
use Rattle.mdp_ends.specs.{Numbers.{is_numbered, count_from}, Ends.{part_of, is_inside}}

-- both are in the same part
abbrev pub ShareAPart : List (Option ℕ) → ℕ → ℕ → Type 0
ShareAPart ends s t = (i : ℕ) × (part_of ends s ≡ Some i) × (part_of ends t ≡ Some i)

-- the number of each state's node: nodes are the parts and the states in none, numbered by their least states
pub record AreNodes (ends : List (Option ℕ)) (nodes : List ℕ) : Type 0 where
  pub count : length nodes ≡ length ends
  pub same : (s t : ℕ) → s < length ends → t < length ends → (slice_index nodes s ≡ slice_index nodes t) ↔ ((s ≡ t) ⊎ ShareAPart ends s t)
  pub numbered : is_numbered 0 (map Some nodes) ≡ true

abbrev pub nodes_in : List ℕ → ℕ
nodes_in nodes = count_from 0 (map Some nodes)

-- the exits of node q: the choices of its states that aren't inside, ascending by state and choice
abbrev pub exits_of : Mdp → List (Option ℕ) → List ℕ → ℕ → List Pred
exits_of m ends nodes q = filter (λ x. (slice_index nodes x.state == q) && not (is_inside m ends x.state x.choice)) (choices_below m (states_of m))

-- the probability of a set of targets
abbrev pub mass_in : (ℕ → Bool) → List Entry → ℚ
mass_in set row = sum_of (λ x. cond (set x.target) x.prob (of_int (pos 0))) row

-- a row over n nodes: at each node the sum of the entries to its states, where it is above 0
abbrev pub merged : ℕ → (ℕ → ℕ) → List Entry → List Entry
merged n node row = filter (λ y. not (le_ℚ y.prob (of_int (pos 0)))) (map (λ q. record { target = q; prob = mass_in (λ t. node t == q) row }) (range_with_len 0 n))

abbrev pub node_row : Mdp → List ℕ → ℕ → ℕ → List Entry
node_row m nodes s c = merged (nodes_in nodes) (slice_index nodes) (row_at m s c)
