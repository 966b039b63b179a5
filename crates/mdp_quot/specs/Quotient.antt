-- The quotient of a model by its maximal end components, as contracts see it.
use Rattle.std.specs.Prelude.{◌≡◌, ℕ, ◌<◌, ◌≤◌, ◌^◌, ◌==◌, List, [], ◌∷◌, length, map, cond, Option, None, pos, slice_index, slice_index_or}
use Rattle.std.specs.List.{range_with_len}
use Rattle.mdp_math.specs.Rational.{of_int}
use Rattle.mdp_spec.specs.{Mdp.{Entry, Mdp, states_of}, Row.{IsRow}}
use Rattle.mdp_rows.specs.declared.preds.Pred.{Pred}
use Rattle.mdp_ends.specs.{Ends.{part_of}, Quotient.{AreNodes, nodes_in, exits_of, node_row}}

-- the node of each state, the end component of each node, and for each node its exits, and their rows over nodes; a node without exits has the row of its loop
pub record Quotient : Type 0 where
  pub nodes : List ℕ
  pub components : List (Option ℕ)
  pub exits : List (List Pred)
  pub rows : List (List (List Entry))

abbrev pub exits_at : Quotient → ℕ → List Pred
exits_at q k = slice_index_or q.exits k []

-- row i of node k
abbrev pub rows_at : Quotient → ℕ → List (List Entry)
rows_at q k = slice_index_or q.rows k []

abbrev pub row_of : Quotient → ℕ → ℕ → List Entry
row_of q k i = slice_index_or (rows_at q k) i []

-- a node that stays
abbrev pub loop_row : ℕ → List Entry
loop_row k = record { target = k; prob = of_int (pos 1) } ∷ []

-- the rows of exits of node k; its loop where there are none
abbrev pub rows_by : Mdp → List ℕ → ℕ → List Pred → List (List Entry)
rows_by m nodes k exits = cond (length exits == 0) (loop_row k ∷ []) (map (λ x. node_row m nodes x.state x.choice) exits)

abbrev pub node_rows : Mdp → List (Option ℕ) → List ℕ → ℕ → List (List Entry)
node_rows m parts nodes k = rows_by m nodes k (exits_of m parts nodes k)

-- the quotient of m by its end components
pub record IsQuotient (m : Mdp) (parts : List (Option ℕ)) (q : Quotient) : Type 0 where
  pub nodes : AreNodes parts q.nodes
  pub count : length q.components ≡ nodes_in q.nodes
  pub components : (s : ℕ) → s < states_of m → slice_index_or q.components (slice_index q.nodes s) None ≡ part_of parts s
  pub exits : q.exits ≡ map (exits_of m parts q.nodes) (range_with_len 0 (nodes_in q.nodes))
  pub rows : q.rows ≡ map (node_rows m parts q.nodes) (range_with_len 0 (nodes_in q.nodes))

-- what each quotient keeps: each node has a row for each exit, and one at least; rows are distributions over the nodes
pub record IsShaped (q : Quotient) : Type 0 where
  pub few : length q.exits < 2 ^ 32
  pub components : length q.components ≡ length q.exits
  pub rows : length q.rows ≡ length q.exits
  pub each : (k : ℕ) → k < length q.exits → (0 < length (rows_at q k)) × (length (exits_at q k) ≤ length (rows_at q k))
  pub are_rows : (k i : ℕ) → k < length q.exits → i < length (rows_at q k) → IsRow (length q.exits) (row_of q k i)

-- for each node the number of one of its exits; 0 where it has none
pub record IsChosen (q : Quotient) (chosen : List ℕ) : Type 0 where
  pub count : length chosen ≡ length q.exits
  pub at : (k : ℕ) → k < length q.exits → 0 < length (exits_at q k) → slice_index chosen k < length (exits_at q k)
  pub none : (k : ℕ) → k < length q.exits → length (exits_at q k) ≡ 0 → slice_index chosen k ≡ 0

-- the rows of the chosen exits; a node without exits stays
abbrev pub chosen_rows : Quotient → List ℕ → List (List Entry)
chosen_rows q chosen = map (λ k. row_of q k (slice_index chosen k)) (range_with_len 0 (length q.rows))
