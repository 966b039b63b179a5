use Rattle.std.proofs.Common.{sym, ◌∙◌, arith}
use Rattle.mdp_rows.specs.Preds.{pair}
use Rattle.mdp_graph.proofs.NextMet.{in_preds}
use Rattle.mdp_parts.specs.{Losing.{IsPruned}, Region.{is_in}}
use Rattle.mdp_parts.proofs.Pruning.{pruned_none, pred_at, pred_within, into_more}
use Rattle.mdp_parts.proofs.losing.Losing.forbid_into.Goals.{then-not-has+then-at+in_ok-look_at, else-not-has}
use Rattle.mdp_parts.proofs.losing.Losing.forbid_into.Goals as goal

pub of-pred-items-requires : goal.of-pred-items-requires
of-pred-items-requires c = let n = in_preds c.args.model.now c.args.preds.now c.requires.preds in omega (arith, n, c.requires.state)

pub loop-pred-init : goal.loop-pred-init
loop-pred-init c = record { pruned = pruned_none c.args.model.now c.args.allowed.now c.requires.allowed; losing = c.requires.losing; less = omega arith }

pub has-requires : goal.has-requires
has-requires c =
    let q = pred_at c.args.model.now c.args.preds.now c.requires.preds c.args.t c.requires.state c.of-pred-items.result.now c.of-pred-items.ensures
    c.loop-pred.pred-index (pair 0 0) c.loop-pred-test.true in
    omega (arith, q.0, c.requires.region)

pub at-requires-clause-state : goal.at-requires-clause-state
at-requires-clause-state c =
    (pred_within c.args.model.now c.loop-pred.allowed (IsPruned.sizes c.loop-pred.invariant.pruned)
    c.args.preds.now c.requires.preds c.args.t c.requires.state c.of-pred-items.result.now c.of-pred-items.ensures
    c.loop-pred.pred-index (pair 0 0) c.loop-pred-test.true).0

pub at-requires-clause-choice : goal.at-requires-clause-choice
at-requires-clause-choice c =
    (pred_within c.args.model.now c.loop-pred.allowed (IsPruned.sizes c.loop-pred.invariant.pruned)
    c.args.preds.now c.requires.preds c.args.t c.requires.state c.of-pred-items.result.now c.of-pred-items.ensures
    c.loop-pred.pred-index (pair 0 0) c.loop-pred-test.true).1

pub loop-pred-preserved : goal.loop-pred-preserved
loop-pred-preserved c =
    let q = pred_at c.args.model.now c.args.preds.now c.requires.preds c.args.t c.requires.state c.of-pred-items.result.now c.of-pred-items.ensures
    c.loop-pred.pred-index (pair 0 0) c.loop-pred-test.true in
    elim c.if-not-has.branch [
      | then-not-has+then-at+in_ok-look_at w ↦
          rw (w.self-is, w.allowed-is)
          (into_more c.args.model.now c.known.ensures.mdp c.args.allowed.now c.loop-pred.allowed c.loop-pred.self.first.items
          c.args.self.now.lost.items c.loop-pred.self.lost.items
          c.loop-pred.self.seeds.items c.loop-pred.invariant (is_in c.args.region.now.places.items c.args.region.now.list.items) c.requires.closed
          _ _ c.args.t q.0 q.1 q.2
          c.requires.state c.requires.inside (sym c.has.ensures ∙ w.if-not-has.true) _ _ _ _ w.set.ensures (sym w.at.ensures ∙ w.if-at.true)
          w.in_ok-look_at.ensures.losing w.in_ok-look_at.ensures.more)
      | else-not-has w ↦ rw (w.self-is, w.allowed-is) c.loop-pred.invariant
    ]
