-- What the rows of selected exits are, and that every selection leaves.
use Rattle.std.specs.Prelude.{◌≡◌, ℕ, ◌<◌, true, List, length, Option}
use Rattle.mdp_spec.specs.{Mdp.{Mdp}, Row.{IsMdp}}
use Rattle.mdp_ends.specs.{Ends.{AreEnds}, Quotient.{nodes_in, exits_of}, Selection.{IsSelection, is_exitless, exit_row, selected_rows}}
use Rattle.mdp_graph.specs.{Layers.{reached}, Reach.{row_step}}
use Rattle.mdp_quot.specs.Quotient.{Quotient, IsQuotient, IsChosen, chosen_rows, exits_at, row_of}

-- in the quotient of a model: what the call `row` gives of an exit; a selection is what the type of exit rows keeps; and its rows are those of the selected exits
pub record AreSelected (m : Mdp) (parts : List (Option ℕ)) (q : Quotient) : Type 0 where
  pub count : length q.exits ≡ nodes_in q.nodes
  pub exits : (k : ℕ) → k < nodes_in q.nodes → exits_at q k ≡ exits_of m parts q.nodes k
  pub row : (k i : ℕ) → k < nodes_in q.nodes → i < length (exits_of m parts q.nodes k) → row_of q k i ≡ exit_row m parts q.nodes k i
  pub chosen : (selected : List ℕ) → IsSelection m parts q.nodes selected → IsChosen q selected
  pub selected : (selected : List ℕ) → IsSelection m parts q.nodes selected → chosen_rows q selected ≡ selected_rows m parts q.nodes selected

abbrev pub ExitRowsAreSelected : Type 0
ExitRowsAreSelected = (m : Mdp) (parts : List (Option ℕ)) (q : Quotient) → IsQuotient m parts q → AreSelected m parts q

-- from each node a node without exits is reached by the selected rows
abbrev pub EverySelectionLeaves : Type 0
EverySelectionLeaves =
    (m : Mdp) (parts : List (Option ℕ)) (q : Quotient) (selected : List ℕ) → IsMdp m → AreEnds m parts → IsQuotient m parts q → IsSelection m parts q.nodes selected
    → (k : ℕ) → k < length q.exits → (n : ℕ) × (reached (row_step (chosen_rows q selected)) (is_exitless m parts q.nodes) n k ≡ true)
