use Rattle.std.proofs.{Common.{◌++◌, [], take, List, sym, ap, subst, ◌∙◌, arith}, lemmas.List.{take_all}}
use Rattle.mdp_rows.specs.declared.preds.Pred.{Pred}
use Rattle.mdp_graph.specs.Waiting.{AreWithin, leading_to}
use Rattle.mdp_graph.proofs.Releasing.{within_now, within_part, met_none, met_more, leading-more}
use Rattle.mdp_graph.proofs.waiting.Waiting.met_by.Goals as goal

pub release_all-requires-clause-within : goal.release_all-requires-clause-within
release_all-requires-clause-within c =
    subst (λ (x : List Pred). AreWithin c.loop-t.self x) (sym c.of.ensures)
    (within_part c.loop-t.self c.args.preds.now c.args.layer.now c.loop-t.t-index c.loop-t-test.true
    (within_now c.args.self.now c.loop-t.self _ (leading_to c.args.preds.now c.args.layer.now) c.loop-t.invariant.released c.requires.within))

pub loop-t-preserved : goal.loop-t-preserved
loop-t-preserved c =
    met_more c.args.self.now c.loop-t.self c.release_all.new.self (leading_to c.args.preds.now (take c.loop-t.t-index c.args.layer.now))
    c.of.result.now _ c.args.ranks.now [] c.loop-t.met.items c.release_all.new.met.items c.loop-t.invariant c.in_ok-release_all.ensures
    (leading-more c.args.preds.now c.args.layer.now c.loop-t.t-index c.loop-t-test.true
    ∙ ap (λ (x : List Pred). leading_to c.args.preds.now (take c.loop-t.t-index c.args.layer.now) ++ x) (sym c.of.ensures))

pub loop-t-init : goal.loop-t-init
loop-t-init c = rw c.new-met.ensures.items (met_none _ _ _)

pub release_all-requires-clause-ranks : goal.release_all-requires-clause-ranks
release_all-requires-clause-ranks c = omega (arith, c.loop-t.invariant.released.count, c.requires.ranks)

pub returns : goal.returns
returns c = rw (take_all c.loop-t.t-index c.args.layer.now c.loop-t-test.false) at c.loop-t.invariant
