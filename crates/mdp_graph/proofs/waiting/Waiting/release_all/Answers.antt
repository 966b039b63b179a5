use Rattle.std.proofs.{Common.{◌∷◌, [], take, get_or, ◌&&◌, not, is_none, sym, ap, ◌∙◌, arith}, lemmas.List.{take_more, take_all}}
use Rattle.mdp_rows.specs.{Preds.{pair}, declared.preds.Pred.{Pred}}
use Rattle.mdp_graph.specs.{Waiting.{some_waits}, Layers.{rank_at}}
use Rattle.mdp_graph.proofs.Releasing.{within_now, within_at, met_none, met_more, met_push, met_skip}
use Rattle.mdp_graph.proofs.waiting.Waiting.release_all.Goals.{then-release+then-is_none+in_ok-push, else-release, else-release-via-then-release+else-is_none, else-release-via-else-release}
use Rattle.mdp_math.proofs.Booleans.{and-false}
use Rattle.mdp_graph.proofs.waiting.Waiting.release_all.Goals as goal

pub release-requires-clause-state : goal.release-requires-clause-state
release-requires-clause-state c =
    let w = within_at c.loop-pred.self c.args.preds.now c.loop-pred.pred-index (pair 0 0)
    (within_now c.args.self.now c.loop-pred.self _ c.args.preds.now c.loop-pred.invariant.released c.requires.within) c.loop-pred-test.true in
    w.0

pub release-requires-clause-choice : goal.release-requires-clause-choice
release-requires-clause-choice c =
    let w = within_at c.loop-pred.self c.args.preds.now c.loop-pred.pred-index (pair 0 0)
    (within_now c.args.self.now c.loop-pred.self _ c.args.preds.now c.loop-pred.invariant.released c.requires.within) c.loop-pred-test.true in
    w.1

pub loop-pred-preserved : goal.loop-pred-preserved
loop-pred-preserved c =
    let pred : Pred = get_or c.args.preds.now c.loop-pred.pred-index (pair 0 0) in
    met_more c.args.self.now c.loop-pred.self c.release.new.self (take c.loop-pred.pred-index c.args.preds.now)
    (pred ∷ []) _ c.args.ranks.now c.args.met.now.items c.loop-pred.met.items c.if-release.met.items c.loop-pred.invariant
    (elim c.if-release.branch [
      | then-release+then-is_none+in_ok-push w ↦
          rw (w.met-is) (met_push c.loop-pred.self c.release.new.self pred.state pred.choice c.args.ranks.now c.loop-pred.met.items _ c.release.ensures.released
          (sym w.if-release.ensures.last) (ap not w.if-is_none.ensures) w.in_ok-push.ensures.items)
      | else-release w ↦ (elim w.else-release.branch [
        | else-release-via-then-release+else-is_none v ↦
            rw (w.met-is)
            (met_skip c.loop-pred.self c.release.new.self pred.state pred.choice c.args.ranks.now c.loop-pred.met.items c.release.ensures.released
            (ap (λ b. b && (some_waits c.loop-pred.self pred.state && not (some_waits c.release.new.self pred.state))) (ap not v.if-is_none.ensures)))
        | else-release-via-else-release v ↦
            rw (w.met-is)
            (met_skip c.loop-pred.self c.release.new.self pred.state pred.choice c.args.ranks.now c.loop-pred.met.items c.release.ensures.released
            (ap (λ b. is_none (rank_at c.args.ranks.now pred.state) && b) (sym v.if-release.ensures.last) ∙ and-false (is_none (rank_at c.args.ranks.now pred.state))))
      ])
    ])
    (take_more c.args.preds.now c.loop-pred.pred-index (pair 0 0) c.loop-pred-test.true)

pub loop-pred-init : goal.loop-pred-init
loop-pred-init c = met_none _ _ _

pub returns : goal.returns
returns c = rw (take_all c.loop-pred.pred-index c.args.preds.now c.loop-pred-test.false) at c.loop-pred.invariant

pub bounds-ranks-pred : goal.bounds-ranks-pred
bounds-ranks-pred c = omega (arith, (within_at c.args.self.now c.args.preds.now c.loop-pred.pred-index (pair 0 0) c.requires.within c.loop-pred-test.true).0, c.requires.ranks)
