use Rattle.std.proofs.{Common.{◌++◌, [], None, take, List, sym, ap, ◌∙◌, arith}, lemmas.List.{take_all}}
use Rattle.mdp_rows.specs.declared.preds.Pred.{Pred}
use Rattle.mdp_graph.specs.Waiting.{leading_to, is_one_of}
use Rattle.mdp_graph.proofs.{Releasing.{leading-more}, Cutting.{cut_none, cut_more, from_part}}
use Rattle.mdp_graph.proofs.forest.cut_choices.Goals as goal

pub cut-requires : goal.cut-requires
cut-requires c = λ s d e.
    (let h = from_part _ c.args.preds.now c.args.fell.now c.loop-t.t-index c.loop-t-test.true c.requires.from s d
    (sym (ap (λ (x : List Pred). is_one_of x s d) c.of.ensures) ∙ e) in omega (arith, h, c.loop-t.invariant.count))

pub loop-t-preserved : goal.loop-t-preserved
loop-t-preserved c =
    cut_more c.args.ways.now.items c.loop-t.ways.items _ [] c.loop-t.list.items _ (leading_to c.args.preds.now (take c.loop-t.t-index c.args.fell.now))
    c.of.result.now _ None c.loop-t.invariant c.in_ok-cut.ensures
    (leading-more c.args.preds.now c.args.fell.now c.loop-t.t-index c.loop-t-test.true
    ∙ ap (λ (x : List Pred). leading_to c.args.preds.now (take c.loop-t.t-index c.args.fell.now) ++ x) (sym c.of.ensures))

pub loop-t-init : goal.loop-t-init
loop-t-init c = rw c.new-list.ensures.items (cut_none _ _ _)

pub of-requires : goal.of-requires
of-requires c = c.requires.below c.loop-t.t-index 0 c.loop-t-test.true

pub returns : goal.returns
returns c = rw (take_all c.loop-t.t-index c.args.fell.now c.loop-t-test.false) at c.loop-t.invariant
