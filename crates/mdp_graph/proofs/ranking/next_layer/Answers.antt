use Rattle.std.proofs.{Common.{sym, ap, ◌∙◌, ◌++◌, take, List, ℕ, arith}, lemmas.List.{take_all}}
use Rattle.mdp_rows.specs.Preds.{is_among}
use Rattle.mdp_graph.specs.Edges.{predecessors_of}
use Rattle.mdp_graph.proofs.{Among.{below-all}, GivingRanks.{given_none, given_more}, Releasing.{leading-more}}
use Rattle.mdp_graph.proofs.ranking.next_layer.Goals as goal

pub loop-t-init : goal.loop-t-init
loop-t-init c = rw c.new-next.ensures.items (given_none _ _ _)

pub give_rank-requires : goal.give_rank-requires
give_rank-requires c = record {
  in_range = below-all _ _ (λ s e.
      (let h = c.requires.edges.below s _ (c.requires.in_range c.loop-t.t-index 0 c.loop-t-test.true) (ap (is_among s) (sym c.of.ensures) ∙ e) in
      omega (arith, h, c.loop-t.invariant.count)));
}

pub loop-t-preserved : goal.loop-t-preserved
loop-t-preserved c =
    let before : List ℕ = predecessors_of c.args.preds.now (take c.loop-t.t-index c.args.layer.now) in
    given_more _ c.loop-t.ranks.items _ _ c.loop-t.next.items _ before c.of.result.now _ _ c.loop-t.invariant c.in_ok-give_rank.ensures
    (leading-more c.args.preds.now c.args.layer.now c.loop-t.t-index c.loop-t-test.true ∙ ap (λ (x : List ℕ). before ++ x) (sym c.of.ensures))

pub returns : goal.returns
returns c = rw (take_all c.loop-t.t-index c.args.layer.now c.loop-t-test.false) at c.loop-t.invariant
