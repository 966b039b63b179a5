use Rattle.std.proofs.{Common.{◌==◌, arith}, lemmas.List.Folds.{list_any_more}}
use Rattle.mdp_rows.specs.{declared.preds.Pred.{Pred}, Preds.{pair}}
use Rattle.mdp_policy_iteration.specs.Marked.{has_one}
use Rattle.mdp_policy_iteration.proofs.Marking.{none_added, more_added, all_added}
use Rattle.mdp_policy_iteration.proofs.affected.add_all.Goals as goal

pub loop-pred-init : goal.loop-pred-init
loop-pred-init c = none_added _ _ c.requires.marked

pub loop-pred-preserved : goal.loop-pred-preserved
loop-pred-preserved c =
    more_added _ _ _ _ _ _ _ _ _ c.loop-pred.invariant c.in_ok-add.ensures
    (λ s. list_any_more (λ (p : Pred). p.state == s) c.args.choices.now c.loop-pred.pred-index (pair 0 0) c.loop-pred-test.true)

pub returns : goal.returns
returns c = all_added has_one c.args.choices.now c.loop-pred.pred-index _ _ _ _ c.loop-pred.invariant (omega arith)
