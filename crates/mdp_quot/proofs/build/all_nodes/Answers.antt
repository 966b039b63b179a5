use Rattle.std.proofs.Common.{◌≡◌, ℕ, ◌<◌, ◌++◌, ◌∷◌, [], List, length, get_or, map, sym, ap, ap₂, ◌∙◌, subst, arith, vec_len, rules}
use Rattle.std.proofs.{lemmas.List.{take_more, map-append, get_or_default, take_all}, lemmas.List.FromFn.{map-range_with_len_more}}
use Rattle.mdp_rows.specs.{declared.preds.Pred.{Pred}, declared.row.Row.{Row}}
use Rattle.mdp_ends.specs.Quotient.{nodes_in}
use Rattle.mdp_quot.specs.{Quotient.{rows_by}, QuotientView.{row_in, rows_in}, Sums.{IsClear}, declared.node.Node.{Node}}
use Rattle.std.specs.List.{All, range_with_len}
use Rattle.mdp_spec.specs.Mdp.{states_of, choices_at}
use Rattle.mdp_quot.proofs.build.all_nodes.Goals as goal

laid_more : {A : Type 0} (f : Node → A) (nodes new : List Node) (x : Node) (ys : List A) (y : A) → new ≡ nodes ++ x ∷ [] → map f nodes ≡ ys → f x ≡ y → map f new ≡ ys ++ y ∷ []
laid_more f nodes new x ys y e is at = ap (map f) e ∙ map-append f nodes (x ∷ []) ∙ ap₂ (λ a b. a ++ b ∷ []) is at

pub loop-q-preserved : goal.loop-q-preserved
loop-q-preserved c =
    let h : c.loop-q.q < length c.args.lists.now = omega (arith, c.loop-q-test.true) in
    let hc : c.loop-q.q < length c.args.numbering.now.components.items = omega (arith, h, c.requires.count, c.requires.components) in
    let exits : c.as_slice-exits.result.now ≡ get_or c.args.lists.now c.loop-q.q [] = c.as_slice-exits.ensures ∙ c.index-lists-q.is ∙ get_or_default c.args.lists.now c.loop-q.q c.index-lists-q.result [] h in (
      laid_more (λ (x : Node). x.component) c.loop-q.nodes.items c.push.new.self.items c.in_ok-settled.field-0 _ _ c.in_ok-push.ensures.items c.loop-q.invariant.0 (c.in_ok-settled.ensures.component ∙ c.index.ensures)
          ∙ sym (take_more c.args.numbering.now.components.items c.loop-q.q c.index.result.now hc),
      laid_more (λ (x : Node). x.exits.now) c.loop-q.nodes.items c.push.new.self.items c.in_ok-settled.field-0 _ _ c.in_ok-push.ensures.items c.loop-q.invariant.1 (c.in_ok-settled.ensures.exits ∙ exits)
          ∙ sym (take_more c.args.lists.now c.loop-q.q [] h),
      laid_more rows_in c.loop-q.nodes.items c.push.new.self.items c.in_ok-settled.field-0 _ _ c.in_ok-push.ensures.items c.loop-q.invariant.2
          (c.in_ok-settled.ensures.rows ∙ ap (λ (rs : List Row). map row_in rs) c.deref-in-loop-q.ensures.value ∙ c.in_ok-rows.ensures.rows
          ∙ ap₂ (λ (ns : List ℕ) (xs : List Pred). rows_by c.args.model.now ns c.loop-q.q xs) c.deref.ensures.value exits)
          ∙ sym (map-range_with_len_more (λ k. rows_by c.args.model.now c.args.numbering.now.nodes.items k (get_or c.args.lists.now k [])) 0 c.loop-q.q c.loop-q.q (omega arith)),
      subst (λ (ns : List ℕ). IsClear (nodes_in ns) c.rows_of_node.new.sums.sums.items c.rows_of_node.new.sums.seen.items) c.deref.ensures.value c.in_ok-rows.ensures.clear,
    )

pub rows_of_node-requires-clause-nodes : goal.rows_of_node-requires-clause-nodes
rows_of_node-requires-clause-nodes c = ap length c.deref.ensures.value ∙ c.requires.nodes

pub rows_of_node-requires-clause-below : goal.rows_of_node-requires-clause-below
rows_of_node-requires-clause-below c = subst (λ (ns : List ℕ). All (λ k. k < nodes_in ns) ns) (sym c.deref.ensures.value) c.requires.below

pub rows_of_node-requires-clause-exits : goal.rows_of_node-requires-clause-exits
rows_of_node-requires-clause-exits c =
    let h : c.loop-q.q < length c.args.lists.now = omega (arith, c.loop-q-test.true) in
    let exits : c.as_slice-exits.result.now ≡ get_or c.args.lists.now c.loop-q.q [] = c.as_slice-exits.ensures ∙ c.index-lists-q.is ∙ get_or_default c.args.lists.now c.loop-q.q c.index-lists-q.result [] h in
    subst (λ (xs : List Pred). All (λ x. (x.state < states_of c.args.model.now) × (x.choice < length (choices_at c.args.model.now x.state))) xs) (sym exits) (c.requires.exits c.loop-q.q [] h)

pub rows_of_node-requires-clause-clear : goal.rows_of_node-requires-clause-clear
rows_of_node-requires-clause-clear c =
    subst (λ (ns : List ℕ). IsClear (nodes_in ns) c.loop-q.sums.sums.items c.loop-q.sums.seen.items) (sym c.deref.ensures.value) c.loop-q.invariant.3

pub returns : goal.returns
returns c = record {
  components = c.loop-q.invariant.0 ∙ take_all c.loop-q.q c.args.numbering.now.components.items (omega (arith, c.requires.count, c.requires.components));
  exits = c.loop-q.invariant.1 ∙ take_all c.loop-q.q c.args.lists.now (omega arith);
  rows =
      (let all : c.loop-q.q ≡ length c.args.lists.now = omega arith in
      c.loop-q.invariant.2
      ∙ ap (λ (n : ℕ). map (λ k. rows_by c.args.model.now c.args.numbering.now.nodes.items k (get_or c.args.lists.now k [])) (range_with_len 0 n)) all);
}

pub index-requires : goal.index-requires
index-requires c =
    let h : c.loop-q.q < length c.args.lists.now = omega (arith, c.loop-q-test.true) in
    let e : vec_len c.args.numbering.now.components ≡ length c.args.numbering.now.components.items = search rules in
    omega (arith, h, e, c.requires.count, c.requires.components)
