-- Every selection of exits leaves.
use Rattle.std.proofs.Common.{◌≡◌, inl, inr, ℕ, suc, ◌<◌, Bool, true, false, not, ◌||◌, ◌&&◌, ◌==◌, nat_le}
use Rattle.std.proofs.Common.{List, [], ◌∷◌, length, get_or, refl, sym, ap, ◌∙◌, subst, arith, Option, Some}
use Rattle.std.proofs.lemmas.Bool.{false≢true, cases_Bool, or_cases, or_left, or_right, and_parts, and_from, eqb-true, eq-eqb, not-true, not_from_false, cond-false, le-leb}
use Rattle.std.proofs.lemmas.List.FromFn.{length-range_with_len, get_or-range_with_len, length-map-range_with_len, get_or-map-range_with_len}
use Rattle.std.proofs.lemmas.List.Elements.{All-cons, All-map}
use Rattle.std.specs.List.{range_with_len, All}
use Rattle.mdp_math.specs.Rational.{◌+ℚ◌, ◌<ℚ◌}
use Rattle.mdp_math.proofs.{Laws.{+ℚ_comm, zero-+ℚ}, Order.{0ℚ, 1ℚ}, Whole.{one-pos}}
use Rattle.mdp_spec.specs.{Mdp.{Entry, Mdp, states_of, choices_at, row_at}, Row.{IsRow, IsMdp, AreRows}}
use Rattle.mdp_rows.specs.{declared.preds.Pred.{Pred}, Preds.{leads_to}}
use Rattle.mdp_graph.specs.{Sets.{stays_in}, Layers.{reached}, Reach.{row_step}}
use Rattle.mdp_ends.specs.{Walks.{Reaches}, Ends.{IsEnd, part_of, in_part, is_inside, stays_with, count_of, AreEnds}}
use Rattle.mdp_ends.specs.Quotient.{AreNodes, nodes_in, exits_of, node_row}
use Rattle.mdp_ends.specs.Selection.{is_exitless, IsSelection, exit_at, exit_row, selected_row, selected_rows, EverySelectionLeaves}
use Rattle.mdp_ends.proofs.Walking.{leads-below, stays-at, stays-by, enters-at, enters-by, target-below, here, moved}
use Rattle.mdp_ends.proofs.{Numbering.{some-same, case-number, numbered-below}, RoundLaws.{has-number, number-has, inside-stays, inside-by}}
use Rattle.mdp_ends.proofs.{Closing.{reaches, reaches_by, bottom}, Saturating.{enough, saturated}, MergedRows.{merged-leads, merged_row}}
use Rattle.mdp_ends.proofs.Exits.{exit_known, node-below, node-has}

module _ (m : Mdp) (ok : IsMdp m) (ends : List (Option ℕ)) (are : AreEnds m ends) (nodes : List ℕ) (numbered : AreNodes ends nodes) where
  abbrev node : ℕ → ℕ
  node s = get_or nodes s 0

  state-in : (s : ℕ) → s < states_of m → s < length ends
  state-in s h = omega (arith, h, are.count)

  pub node_of-below : (s : ℕ) → s < states_of m → node s < nodes_in nodes
  node_of-below s h = node-below ends nodes numbered s (state-in s h)

  part-below : (s i : ℕ) → s < states_of m → part_of ends s ≡ Some i → i < count_of ends
  part-below s i h e = numbered-below 0 ends s i are.numbered e

  -- the states of a part are of one node
  pub same_node : (s t i : ℕ) → s < states_of m → t < states_of m → part_of ends s ≡ Some i → part_of ends t ≡ Some i → node s ≡ node t
  same_node s t i hs ht es et = (numbered.same s t (state-in s hs) (state-in t ht)).1 (inr (i, es, et))

  -- a set of nodes with an exit at each, closed under these exits' rows
  module _ (set : ℕ → Bool) (exit : ℕ → Pred)
      (is_exit : (q : ℕ) → q < nodes_in nodes → set q ≡ true → (Pred.state (exit q) < states_of m) × (Pred.choice (exit q) < length (choices_at m (Pred.state (exit q)))) ×
      (node (Pred.state (exit q)) ≡ q) × (is_inside m ends (Pred.state (exit q)) (Pred.choice (exit q)) ≡ false))
      (closed : (q t : ℕ) → q < nodes_in nodes → set q ≡ true → leads_to t (row_at m (Pred.state (exit q)) (Pred.choice (exit q))) ≡ true → set (node t) ≡ true) where
    abbrev states : ℕ → Bool
    states s = set (node s)

    -- inner choices and the exits
    abbrev chosen : ℕ → ℕ → Bool
    chosen s c = is_inside m ends s c || ((Pred.state (exit (node s)) == s) && (Pred.choice (exit (node s)) == c))

    chosen_exit : (s : ℕ) → s < states_of m → states s ≡ true → node (Pred.state (exit (node s))) ≡ node s → chosen (Pred.state (exit (node s))) (Pred.choice (exit (node s))) ≡ true
    chosen_exit s h is e =
        let x : ℕ = Pred.state (exit (node s)) in
        let c : ℕ = Pred.choice (exit (node s)) in
        or_right (is_inside m ends x c) ((Pred.state (exit (node x)) == x) && (Pred.choice (exit (node x)) == c))
        (subst (λ q. ((Pred.state (exit q) == x) && (Pred.choice (exit q) == c)) ≡ true) (sym e) (and_from (x == x) (c == c) (eq-eqb x x refl) (eq-eqb c c refl)))

    has_choice : (s : ℕ) → s < states_of m → states s ≡ true → (c : ℕ) × (c < length (choices_at m s)) × (chosen s c ≡ true)
    has_choice s h is =
        let q = is_exit (node s) (node_of-below s h) is in
        let x : ℕ = Pred.state (exit (node s)) in
        elim ((numbered.same x s (state-in x q.0) (state-in s h)).0 q.2) [
          | inl same ↦
              (let c : ℕ = Pred.choice (exit (node s)) in
              (c, subst (λ y. c < length (choices_at m y)) same q.1, subst (λ y. chosen y c ≡ true) same (chosen_exit s h is q.2)))
          | inr share ↦
              (let part = are.maximal share.0 (part-below s share.0 h share.2) in
              let w = part.is_end.choice s h (has-number share.0 (part_of ends s) share.2) in
              (w.0, w.1, or_left (is_inside m ends s w.0) ((Pred.state (exit (node s)) == s) && (Pred.choice (exit (node s)) == w.0)) w.2))
        ]

    keeps_states : (s c : ℕ) → s < states_of m → states s ≡ true → c < length (choices_at m s) → chosen s c ≡ true → stays_in states (row_at m s c) ≡ true
    keeps_states s c h is l e = elim (or_cases (is_inside m ends s c) ((Pred.state (exit (node s)) == s) && (Pred.choice (exit (node s)) == c)) e) [
      | inl inner ↦ (elim (case-number (part_of ends s)) [
        | inl none ↦ absurd (false≢true (sym (ap (λ o. stays_with ends o (row_at m s c)) none) ∙ inner))
        | inr part ↦
            stays-by states (row_at m s c)
            (λ t to.
            (let ht = target-below m ok s c t h l to in
            let et = number-has part.0 (part_of ends t) (stays-at (in_part ends part.0) (row_at m s c) t (inside-stays m ends s c part.0 part.1 inner) to) in
            ap set (same_node t s part.0 ht h et part.1) ∙ is))
      ])
      | inr outer ↦
          (let p = and_parts (Pred.state (exit (node s)) == s) (Pred.choice (exit (node s)) == c) outer in
          let es = eqb-true (Pred.state (exit (node s))) s p.0 in
          let ec = eqb-true (Pred.choice (exit (node s))) c p.1 in
          stays-by states (row_at m s c) (λ t to. closed (node s) t (node_of-below s h) is
          (subst (λ x. leads_to t (row_at m x (Pred.choice (exit (node s)))) ≡ true) (sym es) (subst (λ d. leads_to t (row_at m s d) ≡ true) (sym ec) to))))
    ]

    pub no_closed_set : (q : ℕ) → q < nodes_in nodes → set q ≡ true → ⊥
    no_closed_set q h is =
        let first = node-has ends nodes numbered q h in
        let hx : first.0 < states_of m = omega (arith, first.1, are.count) in
        let low = bottom m ok chosen states first.0 hx (ap set first.2 ∙ is) has_choice keeps_states in
        let s : ℕ = low.0 in
        let hs : s < states_of m = low.1 in
        let e : IsEnd m (reaches m ok chosen s) chosen = low.3 in
        let own = reaches_by m ok chosen s s hs (here m chosen s) in
        let part = are.each (reaches m ok chosen s) chosen e in
        let i : ℕ = part.0 in
        let es : part_of ends s ≡ Some i = number-has i (part_of ends s) (part.2 s hs own) in
        let k = is_exit (node s) (node_of-below s hs) low.2 in
        let x : ℕ = Pred.state (exit (node s)) in
        let c : ℕ = Pred.choice (exit (node s)) in
        let ex : part_of ends x ≡ Some i = elim ((numbered.same x s (state-in x k.0) (state-in s hs)).0 k.2) [
          | inl same ↦ ap (part_of ends) same ∙ es
          | inr share ↦ share.1 ∙ ap Some (some-same share.0 i (sym share.2 ∙ es))
        ] in
        let inner = are.maximal i part.1 in
        let walk : Reaches m chosen s x = moved m ok (in_part ends i) (is_inside m ends) chosen inner.is_end.closed
        (λ y d hy iy ly ey. or_left (is_inside m ends y d) ((Pred.state (exit (node y)) == y) && (Pred.choice (exit (node y)) == d)) ey) s x hs
        (has-number i (part_of ends s) es) (inner.is_end.joined s x hs k.0 (has-number i (part_of ends s) es) (has-number i (part_of ends x) ex)) in
        let rx = reaches_by m ok chosen s x hs walk in
        let stays = e.closed x c k.0 rx k.1 (chosen_exit s hs low.2 k.2) in
        let inside : is_inside m ends x c ≡ true = inside-by m ends x c i ex
        (stays-by (in_part ends i) (row_at m x c) (λ t to. part.2 t (target-below m ok x c t k.0 k.1 to) (stays-at (reaches m ok chosen s) (row_at m x c) t stays to))) in
        false≢true (sym k.3 ∙ inside)

-- ---- the rows of exits and of a selection are distributions over the nodes

module _ (m : Mdp) (ok : IsMdp m) (ends : List (Option ℕ)) (are : AreEnds m ends) (nodes : List ℕ) (numbered : AreNodes ends nodes) where
  targets : (s c : ℕ) → s < states_of m → c < length (choices_at m s) → All (λ x. get_or nodes x.target 0 < nodes_in nodes) (row_at m s c)
  targets s c h l = λ k x u. (let row = ok.row s c h l in node_of-below m ok ends are nodes numbered (Entry.target (get_or (row_at m s c) k x)) (row.in_range k x u))

  pub node_row-is : (s c : ℕ) → s < states_of m → c < length (choices_at m s) → IsRow (nodes_in nodes) (node_row m nodes s c)
  node_row-is s c h l = let row = ok.row s c h l in merged_row (nodes_in nodes) (λ t. get_or nodes t 0) (row_at m s c) row.distribution (targets s c h l)

  pub exit_row-is : (q i : ℕ) → i < length (exits_of m ends nodes q) → IsRow (nodes_in nodes) (exit_row m ends nodes q i)
  exit_row-is q i l = let x = exit_known m ends nodes q i l in node_row-is (Pred.state (exit_at m ends nodes q i)) (Pred.choice (exit_at m ends nodes q i)) x.0 x.1

  pub loop : (n q : ℕ) → q < n → IsRow n (record { target = q; prob = 1ℚ } ∷ [])
  loop n q h = record {
    distribution = record {
      ascending = and_from (nat_le 0 q) true (le-leb 0 q (omega arith)) refl;
      positive = All-cons (λ (x : Entry). 0ℚ <ℚ x.prob) (record { target = q; prob = 1ℚ }) [] one-pos (λ k d l. absurd (omega (arith, l)));
      total = one_zero;
    };
    in_range = All-cons (λ (x : Entry). x.target < n) (record { target = q; prob = 1ℚ }) [] h (λ k d l. absurd (omega (arith, l)));
  } where
    one_zero : 1ℚ +ℚ 0ℚ ≡ 1ℚ
    one_zero = +ℚ_comm 1ℚ 0ℚ ∙ zero-+ℚ 1ℚ

  abbrev count : ℕ
  count = nodes_in nodes

  -- rows of nodes, where those that go on have the row of one of their exits
  module _ (stops : ℕ → Bool) (taken : ℕ → ℕ) (rows : List (List Entry)) (are_rows : AreRows rows) (as_many : length rows ≡ count)
      (is_taken : (q : ℕ) → q < count → stops q ≡ false → (taken q < length (exits_of m ends nodes q)) × (get_or rows q [] ≡ exit_row m ends nodes q (taken q))) where
    step-rises : (p q : ℕ → Bool) → ((t : ℕ) → t < count → p t ≡ true → q t ≡ true) → (s : ℕ) → s < count → row_step rows p s ≡ true → row_step rows q s ≡ true
    step-rises p q more s h e =
        let w = enters-at p (get_or rows s []) e in
        let row = are_rows s [] (omega (arith, h, as_many)) in
        let below = leads-below (length rows) (get_or rows s []) w.0 row.in_range w.1 in
        enters-by q (get_or rows s []) w.0 w.1 (more w.0 (omega (arith, below, as_many)) w.2)

    abbrev leaves : ℕ → Bool
    leaves = reached (row_step rows) stops count

    abbrev stays : ℕ → Bool
    stays q = not (leaves q)

    abbrev exit : ℕ → Pred
    exit q = exit_at m ends nodes q (taken q)

    goes_on : (q : ℕ) → q < count → stays q ≡ true → stops q ≡ false
    unfolding reached
    goes_on q h e = elim (cases_Bool (stops q)) [
      | inr on ↦ on
      | inl off ↦ absurd (false≢true (sym (not-true (leaves q) e) ∙ enough (row_step rows) stops count step-rises 0 count q (omega arith) off))
    ]

    closed : (q t : ℕ) → q < count → stays q ≡ true → leads_to t (row_at m (Pred.state (exit q)) (Pred.choice (exit q))) ≡ true → stays (get_or nodes t 0) ≡ true
    unfolding reached
    closed q t h e to = elim (cases_Bool (leaves (get_or nodes t 0))) [
      | inr out ↦ not_from_false (leaves (get_or nodes t 0)) out
      | inl into ↦
          (let k = is_taken q h (goes_on q h e) in
          let x = exit_known m ends nodes q (taken q) k.0 in
          let s : ℕ = Pred.state (exit q) in
          let c : ℕ = Pred.choice (exit q) in
          let row = ok.row s c x.0 x.1 in
          let lead = merged-leads count (λ t. get_or nodes t 0) (row_at m s c) t row.distribution.positive to (node_of-below m ok ends are nodes numbered t (target-below m ok s c t x.0 x.1 to)) in
          let stepped : row_step rows leaves q ≡ true = enters-by leaves (get_or rows q []) (get_or nodes t 0) (subst (λ (r : List Entry). leads_to (get_or nodes t 0) r ≡ true) (sym k.1) lead) into in
          absurd (false≢true (sym (not-true (leaves q) e) ∙ saturated (row_step rows) stops count step-rises (suc count) q h (or_right (leaves q) (row_step rows leaves q) stepped))))
    ]

    -- from each node one that stops is reached by the rows
    pub leaves_all : (q : ℕ) → q < count → leaves q ≡ true
    leaves_all q h = elim (cases_Bool (leaves q)) [
      | inl it ↦ it
      | inr out ↦ absurd (no_closed_set m ok ends are nodes numbered stays exit (λ q h e. (let k = is_taken q h (goes_on q h e) in exit_known m ends nodes q (taken q) k.0)) closed q h (not_from_false (leaves q) out))
    ]

  module _ (selected : List ℕ) (sel : IsSelection m ends nodes selected) where
    has_exit : (q : ℕ) → q < count → is_exitless m ends nodes q ≡ false → get_or selected q 0 < length (exits_of m ends nodes q)
    has_exit q h some = elim (sel.at q h) [
      | inl none ↦ absurd (false≢true (sym some ∙ none.0))
      | inr l ↦ l
    ]

    selected_row-is : (q : ℕ) → q < count → IsRow count (selected_row m ends nodes selected q)
    selected_row-is q h = elim (cases_Bool (is_exitless m ends nodes q)) as (λ _. IsRow count (selected_row m ends nodes selected q)) [
      | inl none ↦ rw none (loop count q h)
      | inr some ↦ rw some (exit_row-is q (get_or selected q 0) (has_exit q h some))
    ]

    row_is : (q : ℕ) → q < count → get_or (selected_rows m ends nodes selected) q [] ≡ selected_row m ends nodes selected q
    row_is q h = get_or-map-range_with_len (selected_row m ends nodes selected) 0 count q q [] h (omega arith)

    pub length-selected_rows : length (selected_rows m ends nodes selected) ≡ count
    length-selected_rows = length-map-range_with_len (selected_row m ends nodes selected) 0 count

    pub selected_rows-are : AreRows (selected_rows m ends nodes selected)
    selected_rows-are =
        subst (λ k. All (IsRow k) (selected_rows m ends nodes selected)) (sym length-selected_rows)
        (All-map (IsRow count) (selected_row m ends nodes selected) (range_with_len 0 count)
        (λ k d l. (let z : k < count = omega (arith, l, length-range_with_len 0 count) in selected_row-is (get_or (range_with_len 0 count) k d) (omega (arith, z, get_or-range_with_len 0 count k d z)))))

    taken-is : (q : ℕ) → q < count → is_exitless m ends nodes q ≡ false
        → (get_or selected q 0 < length (exits_of m ends nodes q)) × (get_or (selected_rows m ends nodes selected) q [] ≡ exit_row m ends nodes q (get_or selected q 0))
    taken-is q h some =
        (has_exit q h some, row_is q h ∙ cond-false (is_exitless m ends nodes q) (record { target = q; prob = 1ℚ } ∷ []) (exit_row m ends nodes q (get_or selected q 0)) some)

    pub selection_leaves : (q : ℕ) → q < count → reached (row_step (selected_rows m ends nodes selected)) (is_exitless m ends nodes) count q ≡ true
    selection_leaves q h = leaves_all (is_exitless m ends nodes) (λ q. get_or selected q 0) (selected_rows m ends nodes selected) selected_rows-are length-selected_rows taken-is q h

pub every_selection_leaves : EverySelectionLeaves
every_selection_leaves m ends nodes selected ok are numbered sel q h = (nodes_in nodes, selection_leaves m ok ends are nodes numbered selected sel q h)
