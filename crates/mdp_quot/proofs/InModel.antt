-- The quotient of a model in terms of the model: its exits, and what a policy of exits is there.
use Rattle.std.proofs.{Common.{◌≡◌, ℕ, ◌<◌, false, List, length, get_or, sym, ◌∙◌, ap, arith, Option, Some}, lemmas.List.{get_or_default}, lemmas.Bool.{eq-eqb}}
use Rattle.mdp_math.specs.Rational.{ℚ}
use Rattle.mdp_spec.specs.{Mdp.{Mdp, states_of, choices_at}, Row.{IsMdp}}
use Rattle.mdp_rows.specs.{declared.preds.Pred.{Pred}, Preds.{pair}}
use Rattle.mdp_ends.specs.{Ends.{AreEnds, part_of, is_inside, count_of}, Quotient.{exits_of, node_row}, Selection.{exit_row}, Toward.{IsOuter}}
use Rattle.mdp_ends.proofs.{Numbering.{numbered-below}, Exits.{exit_found, node-has}, Leaving.{node_of-below}, StepsLeave.{exitless-part}}
use Rattle.mdp_quot.specs.{Quotient.{Quotient, IsQuotient, exits_at, row_of}, Laws.{AreSelected}, Problem.{component_of}, Outer.{IsOuterPolicy, HasGains}}
use Rattle.mdp_quot.proofs.Selected.{are_selected}

module _ (m : Mdp) (ok : IsMdp m) (parts : List (Option ℕ)) (are : AreEnds m parts) (q : Quotient) (is : IsQuotient m parts q) where
  abbrev pub node : ℕ → ℕ
  node s = get_or q.nodes s 0

  selected : AreSelected m parts q
  selected = are_selected m parts q is

  -- ---- nodes

  pub node_below : (s : ℕ) → s < states_of m → node s < length q.exits
  node_below s l = omega (arith, node_of-below m ok parts are q.nodes is.nodes s l, selected.count)

  pub component-is : (s : ℕ) → s < states_of m → component_of q (node s) ≡ part_of parts s
  component-is s l = is.components s l

  pub exits-same : (k : ℕ) → k < length q.exits → exits_at q k ≡ exits_of m parts q.nodes k
  exits-same k l = selected.exits k (omega (arith, l, selected.count))

  pub row-same : (k i : ℕ) → k < length q.exits → i < length (exits_at q k) → row_of q k i ≡ exit_row m parts q.nodes k i
  row-same k i l h = selected.row k i (omega (arith, l, selected.count)) (omega (arith, h, ap length (exits-same k l)))

  -- a node without exits is an end component
  pub exitless-component : (k : ℕ) → k < length q.exits → length (exits_at q k) ≡ 0 → (i : ℕ) × (component_of q k ≡ Some i)
  exitless-component k l none =
      let w = node-has parts q.nodes is.nodes k (omega (arith, l, selected.count)) in
      let hs : w.0 < states_of m = omega (arith, w.1, are.count) in
      let z : length (exits_of m parts q.nodes (node w.0)) ≡ 0 = ap (λ (k : ℕ). length (exits_of m parts q.nodes k)) w.2 ∙ sym (ap length (exits-same k l)) ∙ none in
      let part = exitless-part m ok parts are q.nodes is.nodes w.0 hs (eq-eqb (length (exits_of m parts q.nodes (node w.0))) 0 z) in
      (part.0, ap (component_of q) (sym w.2) ∙ component-is w.0 hs ∙ part.1)

  -- where there is a gain for each end component of the model, each node's component has one
  pub gains-each : (gains : List ℚ) → length gains ≡ count_of parts → HasGains q gains
  gains-each gains n k i l e =
      let w = node-has parts q.nodes is.nodes k (omega (arith, l, selected.count)) in
      let hs : w.0 < states_of m = omega (arith, w.1, are.count) in
      omega (arith, n, numbered-below 0 parts w.0 i are.numbered (sym (component-is w.0 hs) ∙ ap (component_of q) w.2 ∙ e))

  -- ---- exits

  -- a choice that isn't inside is an exit of its state's node
  pub exit_place : (s c : ℕ) → s < states_of m → c < length (choices_at m s) → is_inside m parts s c ≡ false
      → (i : ℕ) × (i < length (exits_at q (node s))) × (row_of q (node s) i ≡ node_row m q.nodes s c)
  exit_place s c l h out =
      let w = exit_found m parts q.nodes s c l h out in
      let k = node_below s l in
      let i : w.0 < length (exits_at q (node s)) = omega (arith, w.1, ap length (exits-same (node s) k)) in
      (w.0, i, row-same (node s) w.0 k i ∙ ap (λ (x : Pred). node_row m q.nodes x.state x.choice) (get_or_default (exits_of m parts q.nodes (node s)) w.0 (pair 0 0) (pair s c) w.1 ∙ w.2))

  -- ---- policies

  pub outer-policy : (policy : List ℕ) → IsOuterPolicy q policy → IsOuter m parts q.nodes policy
  outer-policy policy o = record {
    count = o.count ∙ selected.count;
    leaves = λ k i l e.
        (let h : k < length q.exits = omega (arith, l, selected.count) in
        let j = o.exits k i h e in
        omega (arith, j, ap length (exits-same k h)));
    stops = λ s l e. (let w = o.stops (node s) (node_below s l) e in (w.0, sym (component-is s l) ∙ w.1));
  }
