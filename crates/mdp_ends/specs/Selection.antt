-- One exit for each node that has any.
use Rattle.std.specs.Prelude.{◌≡◌, ℕ, ◌<◌, ◌⊎◌, Bool, true, ◌==◌, List, [], ◌∷◌, length, map, cond, Option, pos, slice_index, slice_index_or}
use Rattle.std.specs.List.{range_with_len}
use Rattle.mdp_math.specs.Rational.{of_int}
use Rattle.mdp_spec.specs.{Mdp.{Entry, Mdp}, Row.{IsMdp}}
use Rattle.mdp_rows.specs.{declared.preds.Pred.{Pred}, Preds.{pair}}
use Rattle.mdp_graph.specs.{Layers.{reached}, Reach.{row_step}}
use Rattle.mdp_ends.specs.{Ends.{AreEnds}, Quotient.{AreNodes, nodes_in, exits_of, node_row}}

abbrev pub is_exitless : Mdp → List (Option ℕ) → List ℕ → ℕ → Bool
is_exitless m ends nodes q = length (exits_of m ends nodes q) == 0

-- for each node the number of one of its exits; 0 where it has none
pub record IsSelection (m : Mdp) (ends : List (Option ℕ)) (nodes selected : List ℕ) : Type 0 where
  pub count : length selected ≡ nodes_in nodes
  pub at : (q : ℕ) → q < nodes_in nodes → ((is_exitless m ends nodes q ≡ true) × (slice_index selected q ≡ 0)) ⊎ (slice_index selected q < length (exits_of m ends nodes q))

-- exit i of node q
abbrev pub exit_at : Mdp → List (Option ℕ) → List ℕ → ℕ → ℕ → Pred
exit_at m ends nodes q i = slice_index_or (exits_of m ends nodes q) i (pair 0 0)

-- its row over nodes
abbrev pub exit_row : Mdp → List (Option ℕ) → List ℕ → ℕ → ℕ → List Entry
exit_row m ends nodes q i = let x = exit_at m ends nodes q i in node_row m nodes x.state x.choice

-- the row of the selected exit; a node without exits stays
abbrev pub selected_row : Mdp → List (Option ℕ) → List ℕ → List ℕ → ℕ → List Entry
selected_row m ends nodes selected q = cond (is_exitless m ends nodes q) (record { target = q; prob = of_int (pos 1) } ∷ []) (exit_row m ends nodes q (slice_index selected q))

abbrev pub selected_rows : Mdp → List (Option ℕ) → List ℕ → List ℕ → List (List Entry)
selected_rows m ends nodes selected = map (selected_row m ends nodes selected) (range_with_len 0 (nodes_in nodes))

-- from each node a node without exits is reached by the selected rows
abbrev pub EverySelectionLeaves : Type 0
EverySelectionLeaves =
    (m : Mdp) (ends : List (Option ℕ)) (nodes selected : List ℕ) → IsMdp m → AreEnds m ends → AreNodes ends nodes → IsSelection m ends nodes selected
    → (q : ℕ) → q < nodes_in nodes → (k : ℕ) × (reached (row_step (selected_rows m ends nodes selected)) (is_exitless m ends nodes) k q ≡ true)
