-- Ranks and choices within a part toward some of its states, and the policy of the model that a policy of the nodes makes.
use Rattle.std.specs.Prelude.{◌≡◌, ℕ, zero, suc, ◌<◌, Bool, ◌&&◌, ◌==◌, nat_lt, cond, List, [], ◌∷◌, length, map, Option, Some, pos, slice_index}
use Rattle.std.specs.List.{range_with_len}
use Rattle.mdp_math.specs.Rational.{of_int}
use Rattle.mdp_spec.specs.Mdp.{Entry, Mdp, states_of, choices_at, row_at}
use Rattle.mdp_rows.specs.declared.preds.Pred.{Pred}
use Rattle.mdp_graph.specs.{Sets.{marked, can_enter}, Layers.{AreReached, AreLeastRanks}, Choices.{AreLeast}, Reach.{falls}}
use Rattle.mdp_ends.specs.{Walks.{chosen_step, comes_to}, Ends.{part_of, in_part, is_inside}, Quotient.{nodes_in, exits_of}, Selection.{exit_at, exit_row}}

-- ---- the pass toward targets of a part

-- a step by an inner choice, which never leads from one part to another
abbrev pub inner_step : Mdp → List (Option ℕ) → (ℕ → Bool) → ℕ → Bool
inner_step m ends = chosen_step m (is_inside m ends)

-- the targets in part i
abbrev pub target_in : List (Option ℕ) → ℕ → List Bool → ℕ → Bool
target_in ends i target s = in_part ends i s && marked target s

-- choice c is inside and leads to a marked state of smaller rank
abbrev pub inner_falls : Mdp → List (Option ℕ) → List Bool → List ℕ → ℕ → ℕ → Bool
inner_falls m ends marks ranks s c = is_inside m ends s c && falls m marks ranks s c

-- what is reached by inner choices, the least ranks, and the least choices that fall
pub record IsToward (m : Mdp) (ends : List (Option ℕ)) (i : ℕ) (target marks : List Bool) (ranks choices : List ℕ) : Type 0 where
  pub reaches : AreReached (inner_step m ends) (target_in ends i target) (states_of m) marks
  pub ranked : AreLeastRanks (inner_step m ends) (target_in ends i target) (states_of m) marks ranks
  pub chosen : AreLeast m target marks (inner_falls m ends marks ranks) choices

-- ---- the same toward one state, computed

-- the first number below n that passes a test; n where none does
unfoldable pub first_below : (ℕ → Bool) → ℕ → ℕ
first_below p zero = zero
first_below p (suc n) = cond (nat_lt (first_below p n) n) (first_below p n) (cond (p n) n (suc n))

-- the least number of inner steps from s to x
abbrev pub rank_to : Mdp → List (Option ℕ) → ℕ → ℕ → ℕ
rank_to m ends x s = first_below (λ k. comes_to m (is_inside m ends) x k s) (suc (states_of m))

-- the least inner choice of s with a successor of smaller rank
abbrev pub choice_to : Mdp → List (Option ℕ) → ℕ → ℕ → ℕ
choice_to m ends x s = first_below (λ c. is_inside m ends s c && can_enter (λ t. nat_lt (rank_to m ends x t) (rank_to m ends x s)) (row_at m s c)) (length (choices_at m s))

-- ---- lifting

-- a policy of the nodes: 0 stops, which only a part's node does; 1 + i takes exit i
pub record IsOuter (m : Mdp) (ends : List (Option ℕ)) (nodes outer : List ℕ) : Type 0 where
  pub count : length outer ≡ nodes_in nodes
  pub leaves : (q i : ℕ) → q < nodes_in nodes → slice_index outer q ≡ suc i → i < length (exits_of m ends nodes q)
  pub stops : (s : ℕ) → s < states_of m → slice_index outer (slice_index nodes s) ≡ 0 → (i : ℕ) × (part_of ends s ≡ Some i)

-- the rows over nodes: a node that stops stays
abbrev pub outer_row : Mdp → List (Option ℕ) → List ℕ → ℕ → ℕ → List Entry
outer_row m ends nodes q zero = record { target = q; prob = of_int (pos 1) } ∷ []
outer_row m ends nodes q (suc i) = exit_row m ends nodes q i

-- the inner choice where the node stops; where it takes an exit, this choice at the exit's state, and the choice toward that state elsewhere
abbrev pub lifted_by : Mdp → List (Option ℕ) → ℕ → Pred → ℕ
lifted_by m ends s x = cond (x.state == s) x.choice (choice_to m ends x.state s)

abbrev pub lifted_choice : Mdp → List (Option ℕ) → List ℕ → ℕ → ℕ → ℕ → ℕ
lifted_choice m ends nodes s inner zero = inner
lifted_choice m ends nodes s inner (suc i) = lifted_by m ends s (exit_at m ends nodes (slice_index nodes s) i)

abbrev pub lifted : Mdp → List (Option ℕ) → List ℕ → List ℕ → List ℕ → List ℕ
lifted m ends nodes outer inner = map (λ s. lifted_choice m ends nodes s (slice_index inner s) (slice_index outer (slice_index nodes s))) (range_with_len 0 (states_of m))
