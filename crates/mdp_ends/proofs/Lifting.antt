-- A policy of the nodes leaves the nodes that don't stop, and the policy that it is lifted to leaves their states.
use Rattle.std.proofs.Common.{◌≡◌, ◌⊎◌, inl, inr, ℕ, suc, zero, ◌+◌, ◌*◌, ◌<◌, ◌≤◌, Bool, true, false, not, ◌&&◌}
use Rattle.std.proofs.{Common.{◌==◌, nat_lt, List, [], length, get_or, map, refl, sym, ap, ◌∙◌, subst, arith, Option, Some}, Math.Nat.{mul-le-mul_right}}
use Rattle.std.proofs.lemmas.Bool.{false≢true, cases_eq, or_cases, and_parts, and_from, eqb-true, ne_eqb, eq-eqb, not-true, ltb-true, lt-ltb, cond-true, cond-false}
use Rattle.std.proofs.{lemmas.List.Elements.{All-map}, lemmas.List.Folds.{Any-from_list_any}}
use Rattle.std.proofs.lemmas.List.FromFn.{length-range_with_len, get_or-range_with_len, length-map-range_with_len, get_or-map-range_with_len}
use Rattle.std.specs.List.{range_with_len, All, Any}
use Rattle.mdp_spec.specs.{Mdp.{Entry, Mdp, states_of, choices_at, row_at}, Row.{IsRow, IsMdp, AreRows}}
use Rattle.mdp_rows.specs.{declared.preds.Pred.{Pred}, Preds.{leads_to}}
use Rattle.mdp_graph.specs.{Sets.{can_enter}, Layers.{reached}, Reach.{row_step}}
use Rattle.mdp_elim.specs.System.{is_active, Leaves}
use Rattle.mdp_ends.specs.{Walks.{chosen_step, comes_to}, Ends.{part_of, in_part, is_inside, AreEnds}, Quotient.{AreNodes, nodes_in, exits_of}}
use Rattle.mdp_ends.specs.{Selection.{exit_at, exit_row}, Toward.{first_below, rank_to, choice_to, IsOuter, outer_row, lifted_by, lifted_choice, lifted}}
use Rattle.mdp_ends.proofs.{Walking.{leads-below, stays-at, enters-at, enters-by, step-has, target-below}, Numbering.{numbered-below}}
use Rattle.mdp_ends.proofs.{RoundLaws.{has-number, number-has, inside-stays}, Closing.{reaches_by}, MergedRows.{merged-from}, Exits.{exit_known}}
use Rattle.mdp_ends.proofs.{Leaving.{node_of-below, same_node, exit_row-is, loop, leaves_all}, Firsts.{first-le, first-least, first-found}}

-- ---- layers

layer_rank : ((ℕ → Bool) → ℕ → Bool) → (ℕ → Bool) → ℕ → ℕ → ℕ
layer_rank step first n q = first_below (λ k. reached step first k q) (suc n)

-- a state of a later layer has a step into the layer before its own
layers_fall : (step : (ℕ → Bool) → ℕ → Bool) (first : ℕ → Bool) (n q : ℕ) → reached step first n q ≡ true
    → first q ≡ false → (r : ℕ) × (layer_rank step first n q ≡ suc r) × (r < suc n) × (step (reached step first r) q ≡ true)
unfolding layer_rank reached
layers_fall step first n q e out = let w = first-found (λ k. reached step first k q) (suc n) n (omega arith) e in at (first_below (λ k. reached step first k q) (suc n)) refl w.0 w.1 where
  at : (k : ℕ) → first_below (λ k. reached step first k q) (suc n) ≡ k → k < suc n → reached step first k q ≡ true
      → (r : ℕ) × (first_below (λ k. reached step first k q) (suc n) ≡ suc r) × (r < suc n) × (step (reached step first r) q ≡ true)
  at zero same l it = absurd (false≢true (sym out ∙ it))
  at (suc r) same l it = elim (or_cases (reached step first r q) (step (reached step first r) q) it) [
    | inl before ↦ (let le = first-least (λ k. reached step first k q) (suc n) r (omega (arith, l)) before in absurd (omega (arith, le, same)))
    | inr stepped ↦ (r, same, omega (arith, l), stepped)
  ]

layer_below : (step : (ℕ → Bool) → ℕ → Bool) (first : ℕ → Bool) (n r t : ℕ) → r < suc n → reached step first r t ≡ true → layer_rank step first n t ≤ r
unfolding layer_rank
layer_below step first n r t h e = first-least (λ k. reached step first k t) (suc n) r h e

leads-any : (row : List Entry) (t : ℕ) (P : ℕ → Type 0) → leads_to t row ≡ true → P t → Any (λ x. P x.target) row
leads-any row t P l p = let w = Any-from_list_any (λ (x : Entry). x.target == t) row l in (w.0, w.1, w.2, w.3, subst P (sym (eqb-true (Entry.target w.1) t w.4)) p)

abbrev pub less_one : ℕ → ℕ
less_one zero = zero
less_one (suc i) = i

module _ (m : Mdp) (ok : IsMdp m) (ends : List (Option ℕ)) (are : AreEnds m ends) (nodes : List ℕ) (numbered : AreNodes ends nodes) (outer : List ℕ) (o : IsOuter m ends nodes outer) where
  abbrev pub node : ℕ → ℕ
  node s = get_or nodes s 0

  abbrev count : ℕ
  count = nodes_in nodes

  abbrev pub stops : ℕ → Bool
  stops q = get_or outer q 0 == 0

  abbrev pub outer_rows : List (List Entry)
  outer_rows = map (λ q. outer_row m ends nodes q (get_or outer q 0)) (range_with_len 0 count)

  pub goes-on : (q : ℕ) → stops q ≡ false → (i : ℕ) × (get_or outer q 0 ≡ suc i)
  goes-on q e = at (get_or outer q 0) refl where
    at : (j : ℕ) → get_or outer q 0 ≡ j → (i : ℕ) × (get_or outer q 0 ≡ suc i)
    at zero same = absurd (false≢true (sym e ∙ eq-eqb (get_or outer q 0) 0 same))
    at (suc i) same = (i, same)

  row-is : (q : ℕ) → q < count → get_or outer_rows q [] ≡ outer_row m ends nodes q (get_or outer q 0)
  row-is q h = get_or-map-range_with_len (λ q. outer_row m ends nodes q (get_or outer q 0)) 0 count q q [] h (omega arith)

  outer_row-is : (q : ℕ) → q < count → IsRow count (outer_row m ends nodes q (get_or outer q 0))
  outer_row-is q h = at (get_or outer q 0) refl where
    at : (j : ℕ) → get_or outer q 0 ≡ j → IsRow count (outer_row m ends nodes q j)
    at zero same = loop m ok ends are nodes numbered count q h
    at (suc i) same = exit_row-is m ok ends are nodes numbered q i (o.leaves q i h same)

  pub length-outer_rows : length outer_rows ≡ count
  length-outer_rows = length-map-range_with_len (λ q. outer_row m ends nodes q (get_or outer q 0)) 0 count

  pub outer_rows-are : AreRows outer_rows
  outer_rows-are =
      subst (λ k. All (IsRow k) outer_rows) (sym length-outer_rows)
      (All-map (IsRow count) (λ q. outer_row m ends nodes q (get_or outer q 0)) (range_with_len 0 count)
      (λ k d l. (let z : k < count = omega (arith, l, length-range_with_len 0 count) in outer_row-is (get_or (range_with_len 0 count) k d) (omega (arith, z, get_or-range_with_len 0 count k d z)))))

  pub taken-is : (q : ℕ) → q < count → stops q ≡ false → (less_one (get_or outer q 0) < length (exits_of m ends nodes q)) × (get_or outer_rows q [] ≡ exit_row m ends nodes q (less_one (get_or outer q 0)))
  taken-is q h e =
      let w = goes-on q e in
      let same : less_one (get_or outer q 0) ≡ w.0 = ap less_one w.1 in
      (subst (λ i. i < length (exits_of m ends nodes q)) (sym same) (o.leaves q w.0 h w.1), row-is q h ∙ ap (outer_row m ends nodes q) w.1 ∙ ap (exit_row m ends nodes q) (sym same))

  pub node_rank : ℕ → ℕ
  node_rank q = layer_rank (row_step outer_rows) stops count q

  -- the row of a node that goes on leads to a node of smaller rank
  pub node_falls : (q : ℕ) → q < count → stops q ≡ false → (r : ℕ) × (leads_to r (get_or outer_rows q []) ≡ true) × (node_rank r < node_rank q)
  unfolding node_rank
  node_falls q h e =
      let w = layers_fall (row_step outer_rows) stops count q (leaves_all m ok ends are nodes numbered stops (λ q. less_one (get_or outer q 0)) outer_rows outer_rows-are length-outer_rows taken-is q h) e in
      let v = enters-at (reached (row_step outer_rows) stops w.0) (get_or outer_rows q []) w.3 in
      let l = layer_below (row_step outer_rows) stops count w.0 v.0 w.2 v.2 in
      (v.0, v.1, omega (arith, l, w.1))

  -- ---- states

  abbrev pub exit_of : ℕ → Pred
  exit_of q = exit_at m ends nodes q (less_one (get_or outer q 0))

  -- by the node's rank, and in the node by the steps to its exit's state
  pub state_rank : ℕ → ℕ
  state_rank s = node_rank (node s) * (states_of m + 2) + rank_to m ends (Pred.state (exit_of (node s))) s

  lex : (a b w x y : ℕ) → a < b → x < w → a * w + x < b * w + y
  lex a b w x y h l = let k : suc a * w ≤ b * w = mul-le-mul_right w h in omega (arith, k, l)

  -- a state of a node of smaller rank, and one of the same node that has fewer steps to go
  lower_node : (s t : ℕ) → node_rank (node t) < node_rank (node s) → state_rank t < state_rank s
  unfolding state_rank
  lower_node s t lower =
      lex (node_rank (node t)) (node_rank (node s)) (states_of m + 2) (rank_to m ends (Pred.state (exit_of (node t))) t) (rank_to m ends (Pred.state (exit_of (node s))) s) lower
      (let l = first-le (λ k. comes_to m (is_inside m ends) (Pred.state (exit_of (node t))) k t) (suc (states_of m)) in omega (arith, l))

  within_node : (s t : ℕ) → node t ≡ node s → rank_to m ends (Pred.state (exit_of (node s))) t < rank_to m ends (Pred.state (exit_of (node s))) s → state_rank t < state_rank s
  unfolding state_rank
  within_node s t same lower = subst (λ r. node_rank r * (states_of m + 2) + rank_to m ends (Pred.state (exit_of r)) t < node_rank
      (node s) * (states_of m + 2) + rank_to m ends (Pred.state (exit_of (node s))) s) (sym same) (omega (arith, lower))

  module _ (inner : List ℕ) where
    abbrev pub policy : List ℕ
    policy = lifted m ends nodes outer inner

    pub policy-is : (s i : ℕ) → s < states_of m → get_or outer (node s) 0 ≡ suc i → get_or policy s 0 ≡ lifted_by m ends s (exit_of (node s))
    policy-is s i h e =
        get_or-map-range_with_len (λ s. lifted_choice m ends nodes s (get_or inner s 0) (get_or outer (get_or nodes s 0) 0)) 0 (states_of m) s s 0 h (omega arith)
        ∙ ap (lifted_choice m ends nodes s (get_or inner s 0)) e ∙ ap (λ j. lifted_by m ends s (exit_at m ends nodes (node s) j)) (sym (ap less_one e))

    -- it is inside, or the node's exit
    abbrev pub Keeps : ℕ → ℕ → Type 0
    Keeps s c = (is_inside m ends s c ≡ true) ⊎ ((Pred.state (exit_of (node s)) ≡ s) × (Pred.choice (exit_of (node s)) ≡ c))

    abbrev pub Falls : ℕ → ℕ → Type 0
    Falls s c = (c < length (choices_at m s)) × (t : ℕ) × (leads_to t (row_at m s c) ≡ true) × (state_rank t < state_rank s) × Keeps s c

    -- at the exit's state: its row leads to a node of smaller rank
    falls-there : (s i : ℕ) → s < states_of m → get_or outer (node s) 0 ≡ suc i → Pred.state (exit_of (node s)) ≡ s → Falls s (Pred.choice (exit_of (node s)))
    falls-there s i h e here =
        let q : ℕ = node s in
        let hq = node_of-below m ok ends are nodes numbered s h in
        let on : stops q ≡ false = ne_eqb (get_or outer q 0) 0 (λ z. omega (arith, z, e)) in
        let k = taken-is q hq on in
        let x = exit_known m ends nodes q (less_one (get_or outer q 0)) k.0 in
        let c : ℕ = Pred.choice (exit_of q) in
        let w = node_falls q hq on in
        let led = subst (λ (row : List Entry). leads_to w.0 row ≡ true) k.1 w.1 in
        let v = merged-from count node (row_at m (Pred.state (exit_of q)) c) w.0 led in
        let to : leads_to v.0 (row_at m s c) ≡ true = subst (λ y. leads_to v.0 (row_at m y c) ≡ true) here v.1 in
        let lower : node_rank (node v.0) < node_rank q = subst (λ r. node_rank r < node_rank q) (sym v.2) w.2 in (
          subst (λ y. c < length (choices_at m y)) here x.1,
          v.0,
          to,
          lower_node s v.0 lower,
          inr (here, refl),
        )

    -- elsewhere in its part: the choice leads to a state with fewer steps to it
    falls-toward : (s i : ℕ) → s < states_of m → get_or outer (node s) 0 ≡ suc i → (Pred.state (exit_of (node s)) ≡ s → ⊥) → Falls s (choice_to m ends (Pred.state (exit_of (node s))) s)
    unfolding layer_rank
    falls-toward s i h e there =
        let n : ℕ = states_of m in
        let q : ℕ = node s in
        let hq = node_of-below m ok ends are nodes numbered s h in
        let on : stops q ≡ false = ne_eqb (get_or outer q 0) 0 (λ z. omega (arith, z, e)) in
        let k = taken-is q hq on in
        let known = exit_known m ends nodes q (less_one (get_or outer q 0)) k.0 in
        let x : ℕ = Pred.state (exit_of q) in
        let part = share s x h known.0 there known.2 in
        let p : ℕ = part.0 in
        let inside = are.maximal p (numbered-below 0 ends s p are.numbered part.1) in
        let walk = inside.is_end.joined s x h known.0 (has-number p (part_of ends s) part.1) (has-number p (part_of ends x) part.2) in
        let w = layers_fall (chosen_step m (is_inside m ends)) (λ y. y == x) n s (reaches_by m ok (is_inside m ends) s x h walk) (ne_eqb s x (λ same. there (sym same))) in
        let z = step-has m (is_inside m ends) (comes_to m (is_inside m ends) x w.0) s w.3 in
        let less = layer_below (chosen_step m (is_inside m ends)) (λ y. y == x) n w.0 z.1 w.2 z.5 in
        let test : ℕ → Bool = λ c. is_inside m ends s c && can_enter (λ t. nat_lt (rank_to m ends x t) (rank_to m ends x s)) (row_at m s c) in
        let passes : test z.0 ≡ true = and_from (is_inside m ends s z.0) (can_enter (λ t. nat_lt (rank_to m ends x t) (rank_to m ends x s)) (row_at m s z.0)) z.3
        (enters-by (λ t. nat_lt (rank_to m ends x t) (rank_to m ends x s)) (row_at m s z.0) z.1 z.4 (lt-ltb (rank_to m ends x z.1) (rank_to m ends x s) (omega (arith, less, w.1)))) in
        let found = first-found test (length (choices_at m s)) z.0 z.2 passes in
        let c : ℕ = choice_to m ends x s in
        let parts = and_parts (is_inside m ends s c) (can_enter (λ t. nat_lt (rank_to m ends x t) (rank_to m ends x s)) (row_at m s c)) found.1 in
        let t = enters-at (λ t. nat_lt (rank_to m ends x t) (rank_to m ends x s)) (row_at m s c) parts.1 in
        let ht = target-below m ok s c t.0 h found.0 t.1 in
        let et = number-has p (part_of ends t.0) (stays-at (in_part ends p) (row_at m s c) t.0 (inside-stays m ends s c p part.1 parts.0) t.1) in
        let same : node t.0 ≡ q = same_node m ok ends are nodes numbered t.0 s p ht h et part.1 in
        let lower = ltb-true (rank_to m ends x t.0) (rank_to m ends x s) t.2 in
        (found.0, t.0, t.1, within_node s t.0 same lower, inl parts.0) where
          share : (s x : ℕ) → s < states_of m → x < states_of m → (x ≡ s → ⊥) → node x ≡ node s → (p : ℕ) × (part_of ends s ≡ Some p) × (part_of ends x ≡ Some p)
          share s x hs hx there e = elim ((numbered.same x s (omega (arith, hx, are.count)) (omega (arith, hs, are.count))).0 e) [
            | inl same ↦ absurd (there same)
            | inr w ↦ (w.0, w.2, w.1)
          ]

    -- so the policy leaves the states of the nodes that go on
    pub lifted_falls : (s : ℕ) → s < states_of m → stops (node s) ≡ false → Falls s (get_or policy s 0)
    lifted_falls s h e =
        let w = goes-on (node s) e in
        let x : Pred = exit_of (node s) in
        subst (Falls s) (sym (policy-is s w.0 h w.1))
        (elim (cases_eq x.state s) as (λ _. Falls s (lifted_by m ends s x)) [
          | inl here ↦ subst (Falls s) (sym (cond-true (x.state == s) x.choice (choice_to m ends x.state s) (eq-eqb x.state s here))) (falls-there s w.0 h w.1 here)
          | inr there ↦ subst (Falls s) (sym (cond-false (x.state == s) x.choice (choice_to m ends x.state s) (ne_eqb x.state s there))) (falls-toward s w.0 h w.1 there)
        ])

    -- as the condition of the elimination
    abbrev pub rows_of_policy : List (List Entry)
    rows_of_policy = map (λ s. row_at m s (get_or policy s 0)) (range_with_len 0 (states_of m))

    abbrev pub active_states : List Bool
    active_states = map (λ s. not (stops (node s))) (range_with_len 0 (states_of m))

    abbrev pub state_ranks : List ℕ
    state_ranks = map state_rank (range_with_len 0 (states_of m))

    pub lifted_leaves : Leaves rows_of_policy active_states state_ranks
    lifted_leaves = record {
      falls = λ s h e.
          (let l : s < states_of m = omega (arith, h, length-map-range_with_len (λ s. row_at m s (get_or policy s 0)) 0 (states_of m)) in
          let on : stops (node s) ≡ false = not-true (stops (node s)) (sym (get_or-map-range_with_len (λ s. not (stops (node s))) 0 (states_of m) s s false l (omega arith)) ∙ e) in
          let w = lifted_falls s l on in
          let ht = target-below m ok s (get_or policy s 0) w.1 l w.0 w.2 in
          let rank : (t : ℕ) → t < states_of m → get_or state_ranks t 0 ≡ state_rank t = λ t u. get_or-map-range_with_len state_rank 0 (states_of m) t t 0 u (omega arith) in
          leads-any (get_or rows_of_policy s []) w.1 (λ t. (is_active active_states t ≡ false) ⊎ (get_or state_ranks t 0 < get_or state_ranks s 0))
          (subst (λ (row : List Entry). leads_to w.1 row ≡ true) (sym (get_or-map-range_with_len (λ s. row_at m s (get_or policy s 0)) 0 (states_of m) s s [] l (omega arith))) w.2)
          (inr (omega (arith, w.3, rank w.1 ht, rank s l))));
    }

  -- the same over nodes
  abbrev pub active_nodes : List Bool
  active_nodes = map (λ q. not (stops q)) (range_with_len 0 count)

  abbrev pub node_ranks : List ℕ
  node_ranks = map node_rank (range_with_len 0 count)

  pub outer_leaves : Leaves outer_rows active_nodes node_ranks
  outer_leaves = record {
    falls = λ q h e.
        (let l : q < count = omega (arith, h, length-outer_rows) in
        let on : stops q ≡ false = not-true (stops q) (sym (get_or-map-range_with_len (λ q. not (stops q)) 0 count q q false l (omega arith)) ∙ e) in
        let w = node_falls q l on in
        let row = outer_row-is q l in
        let hr : w.0 < count = leads-below count (outer_row m ends nodes q (get_or outer q 0)) w.0 row.in_range (subst (λ (r : List Entry). leads_to w.0 r ≡ true) (row-is q l) w.1) in
        let rank : (t : ℕ) → t < count → get_or node_ranks t 0 ≡ node_rank t = λ t u. get_or-map-range_with_len node_rank 0 count t t 0 u (omega arith) in
        leads-any (get_or outer_rows q []) w.0 (λ t. (is_active active_nodes t ≡ false) ⊎ (get_or node_ranks t 0 < get_or node_ranks q 0)) w.1
        (inr (omega (arith, w.2, rank w.0 hr, rank q l))));
  }
