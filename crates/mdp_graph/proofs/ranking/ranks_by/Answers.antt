use Rattle.std.proofs.{Common.{sym, ap, ◌∙◌, arith, None, Option, ℕ, length, ◌≡◌, subst}, lemmas.List.{length-replicate}}
use Rattle.mdp_rows.specs.Preds.{is_among}
use Rattle.mdp_graph.proofs.{Among.{below-all}, RankFacts.{started, layered_from, ended}, NextMet.{is_zero, above_zero}}
use Rattle.mdp_graph.specs.Edges.{AreEdges}
use Rattle.mdp_graph.proofs.ranking.ranks_by.Goals as goal

pub give_rank-requires : goal.give_rank-requires
give_rank-requires c =
    let none : Option ℕ = None in
    let many : length c.in_ok-ranks.ranks.items ≡ c.args.states = ap length c.in_ok-ranks.ensures ∙ length-replicate c.args.states none in
    record {
      in_range = below-all _ _ (λ s e. (let h = c.in_ok-marked_states.ensures.below s (ap (is_among s) (sym c.deref.ensures.value) ∙ e) in omega (arith, h, many)));
    }

pub loop-alloc-init : goal.loop-alloc-init
loop-alloc-init c =
    started _ _ _ _ _ _ _ _ c.in_ok-ranks.ensures c.new-layer.ensures.items c.in_ok-give_rank.ensures
    (λ s h. ap (is_among s) c.deref.ensures.value ∙ c.in_ok-marked_states.ensures.marked s h)

pub next_layer-requires-clause-in_range : goal.next_layer-requires-clause-in_range
next_layer-requires-clause-in_range c =
    below-all _ _ (λ s e. (let h = c.loop-alloc.invariant.below s (ap (is_among s) (sym c.deref-in-loop-alloc.ensures.value) ∙ e) in omega (arith, h, c.loop-alloc.invariant.count)))

pub loop-alloc-preserved : goal.loop-alloc-preserved
loop-alloc-preserved c = layered_from _ _ _ _ _ _ _ _ _ c.loop-alloc.invariant c.in_ok-layer.ensures c.deref-in-loop-alloc.ensures.value (omega (arith, above_zero _ c.loop-alloc-test.ensures))

pub next_layer-requires-clause-edges : goal.next_layer-requires-clause-edges
next_layer-requires-clause-edges c = subst (λ (n : ℕ). AreEdges n c.args.preds.now) (sym c.loop-alloc.invariant.count) c.requires.edges

pub overflow_add-rank : goal.overflow_add-rank
overflow_add-rank c = omega (arith, c.loop-alloc.invariant.left, above_zero _ c.loop-alloc-test.ensures)

pub loop-alloc-smaller : goal.loop-alloc-smaller
loop-alloc-smaller c = omega (arith, c.in_ok-layer.ensures.left, above_zero _ c.loop-alloc-test.ensures)

pub returns : goal.returns
returns c = ended _ _ _ _ _ _ c.loop-alloc.invariant (omega (arith, is_zero _ c.loop-alloc-test.ensures))
