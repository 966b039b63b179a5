-- The rows of selected exits.
use Rattle.std.proofs.Common.{◌≡◌, inl, inr, ℕ, ◌<◌, Bool, false, ◌==◌, cond, List, [], ◌∷◌, length, get_or, map, sym, ap, ◌∙◌, subst, arith, Option}
use Rattle.std.proofs.{lemmas.Bool.{cases_Bool, cases_eq, eqb-true, ne_eqb, false≢true, cond-true, cond-false}, lemmas.List.{get_or-map}}
use Rattle.std.proofs.lemmas.List.FromFn.{length-map-range_with_len, get_or-map-range_with_len, fill_by_all}
use Rattle.mdp_spec.specs.{Mdp.{Entry, Mdp}, Row.{IsRow, AreRows}}
use Rattle.mdp_rows.specs.{declared.preds.Pred.{Pred}, Preds.{pair}}
use Rattle.mdp_ends.specs.{Quotient.{nodes_in, exits_of, node_row}, Selection.{IsSelection, is_exitless, exit_row, selected_row}}
use Rattle.mdp_quot.specs.Quotient.{Quotient, IsQuotient, IsShaped, IsChosen, chosen_rows, exits_at, rows_at, row_of, loop_row, rows_by, node_rows}
use Rattle.mdp_quot.specs.Laws.{AreSelected, EverySelectionLeaves}
use Rattle.mdp_graph.specs.{Layers.{reached}, Reach.{row_step}}
use Rattle.mdp_ends.proofs.Leaving.{every_selection_leaves as leaves_by_nodes}

-- ---- the rows of a choice of exits are distributions over the nodes

module _ (q : Quotient) (s : IsShaped q) (chosen : List ℕ) (c : IsChosen q chosen) where
  pub chosen-in : (k : ℕ) → k < length q.exits → get_or chosen k 0 < length (rows_at q k)
  chosen-in k h =
      let w = s.each k h in
      elim (cases_eq (length (exits_at q k)) 0) [
        | inl none ↦ (let z = c.none k h none in omega (arith, w.0, z))
        | inr some ↦ (let l = c.at k h (omega (arith, some)) in omega (arith, w.1, l))
      ]

  pub length-chosen_rows : length (chosen_rows q chosen) ≡ length q.exits
  length-chosen_rows = length-map-range_with_len (λ k. row_of q k (get_or chosen k 0)) 0 (length q.rows) ∙ s.rows

  pub chosen_rows-at : (k : ℕ) (d : List Entry) → k < length q.exits → get_or (chosen_rows q chosen) k d ≡ row_of q k (get_or chosen k 0)
  chosen_rows-at k d h = get_or-map-range_with_len (λ j. row_of q j (get_or chosen j 0)) 0 (length q.rows) k k d (omega (arith, h, s.rows)) (omega arith)

  pub chosen_are_rows : AreRows (chosen_rows q chosen)
  chosen_are_rows k d l =
      let h : k < length q.exits = omega (arith, l, length-chosen_rows) in
      subst (λ (row : List Entry). IsRow (length (chosen_rows q chosen)) row) (sym (chosen_rows-at k d h))
      (subst (λ n. IsRow n (row_of q k (get_or chosen k 0))) (sym length-chosen_rows) (s.are_rows k (get_or chosen k 0) h (chosen-in k h)))

-- ---- in the quotient of a model

module _ (m : Mdp) (parts : List (Option ℕ)) (q : Quotient) (is : IsQuotient m parts q) where
  length-exits : length q.exits ≡ nodes_in q.nodes
  length-exits = ap length is.exits ∙ length-map-range_with_len (exits_of m parts q.nodes) 0 (nodes_in q.nodes)

  length-rows : length q.rows ≡ nodes_in q.nodes
  length-rows = ap length is.rows ∙ length-map-range_with_len (node_rows m parts q.nodes) 0 (nodes_in q.nodes)

  exits-at : (k : ℕ) → k < nodes_in q.nodes → exits_at q k ≡ exits_of m parts q.nodes k
  exits-at k h = ap (λ (xs : List (List Pred)). get_or xs k []) is.exits ∙ get_or-map-range_with_len (exits_of m parts q.nodes) 0 (nodes_in q.nodes) k k [] h (omega arith)

  rows-at : (k : ℕ) → k < nodes_in q.nodes → rows_at q k ≡ node_rows m parts q.nodes k
  rows-at k h = ap (λ (xs : List (List (List Entry))). get_or xs k []) is.rows ∙ get_or-map-range_with_len (node_rows m parts q.nodes) 0 (nodes_in q.nodes) k k [] h (omega arith)

  by_exits : (k : ℕ) (exits : List Pred) (i : ℕ) → i < length exits → get_or (rows_by m q.nodes k exits) i [] ≡ (let x = get_or exits i (pair 0 0) in node_row m q.nodes x.state x.choice)
  by_exits k [] i l = absurd (omega (arith, l))
  by_exits k (x ∷ exits) i l =
      let some : (length (x ∷ exits) == 0) ≡ false = ne_eqb (length (x ∷ exits)) 0 (λ z. omega (arith, z)) in
      ap (λ (b : Bool). get_or (cond b (loop_row k ∷ []) (map (λ y. node_row m q.nodes y.state y.choice) (x ∷ exits))) i []) some
      ∙ get_or-map (λ (y : Pred). node_row m q.nodes y.state y.choice) (x ∷ exits) i (pair 0 0) [] l

  row-at : (k i : ℕ) → k < nodes_in q.nodes → i < length (exits_of m parts q.nodes k) → row_of q k i ≡ exit_row m parts q.nodes k i
  row-at k i h l = ap (λ (rows : List (List Entry)). get_or rows i []) (rows-at k h) ∙ by_exits k (exits_of m parts q.nodes k) i l

  selected-at : (selected : List ℕ) → IsSelection m parts q.nodes selected → (k : ℕ) → k < nodes_in q.nodes → row_of q k (get_or selected k 0) ≡ selected_row m parts q.nodes selected k
  selected-at selected sel k h = elim (cases_Bool (is_exitless m parts q.nodes k)) [
    | inl none ↦
        (let first : get_or selected k 0 ≡ 0 = elim (sel.at k h) [ inl e ↦ e.1 | inr l ↦ (let z = eqb-true (length (exits_of m parts q.nodes k)) 0 none in omega (arith, z, l)) ] in
        ap (row_of q k) first ∙ ap (λ (rows : List (List Entry)). get_or rows 0 []) (rows-at k h)
        ∙ ap (λ (b : Bool). get_or (cond b (loop_row k ∷ []) (map (λ y. node_row m q.nodes y.state y.choice) (exits_of m parts q.nodes k))) 0 []) none
        ∙ sym (cond-true (is_exitless m parts q.nodes k) (loop_row k) (exit_row m parts q.nodes k (get_or selected k 0)) none))
    | inr some ↦
        (let l : get_or selected k 0 < length (exits_of m parts q.nodes k) = elim (sel.at k h) [ inl e ↦ absurd (false≢true (sym some ∙ e.0)) | inr l ↦ l ] in
        row-at k (get_or selected k 0) h l ∙ sym (cond-false (is_exitless m parts q.nodes k) (loop_row k) (exit_row m parts q.nodes k (get_or selected k 0)) some))
  ]

  pub are_selected : AreSelected m parts q
  are_selected = record {
    count = length-exits;
    exits = exits-at;
    row = row-at;
    chosen = λ selected sel. record {
      count = sel.count ∙ sym length-exits;
      at = λ k h some. (let hk : k < nodes_in q.nodes = omega (arith, h, length-exits) in
          let e = ap length (exits-at k hk) in
          elim (sel.at k hk) [
            | inl none ↦ (let z = eqb-true (length (exits_of m parts q.nodes k)) 0 none.0 in absurd (omega (arith, some, e, z)))
            | inr l ↦ omega (arith, l, e)
          ]);
      none = λ k h none. (let hk : k < nodes_in q.nodes = omega (arith, h, length-exits) in
          let e = ap length (exits-at k hk) in
          elim (sel.at k hk) [ inl z ↦ z.1 | inr l ↦ absurd (omega (arith, l, e, none)) ]);
    };
    selected = λ selected sel.
        fill_by_all (selected_row m parts q.nodes selected) (chosen_rows q selected) (nodes_in q.nodes) [] (length-map-range_with_len (λ k. row_of q k (get_or selected k 0)) 0 (length q.rows) ∙ length-rows)
        (λ k h. get_or-map-range_with_len (λ j. row_of q j (get_or selected j 0)) 0 (length q.rows) k k [] (omega (arith, h, length-rows)) (omega arith) ∙ selected-at selected sel k h);
  }

pub every_selection_leaves : EverySelectionLeaves
every_selection_leaves m parts q selected ok are is sel k h =
    let a = are_selected m parts q is in
    let w = leaves_by_nodes m parts q.nodes selected ok are is.nodes sel k (omega (arith, h, a.count)) in
    (w.0, ap (λ (rows : List (List Entry)). reached (row_step rows) (is_exitless m parts q.nodes) w.0 k) (a.selected selected sel) ∙ w.1)
