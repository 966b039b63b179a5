use Rattle.std.proofs.{Common.{subst, arith}, lemmas.List.{take_all}}
use Rattle.mdp_policy_iteration.proofs.Taken.{HasTaken, taken-more, taken-all}
use Rattle.mdp_policy_iteration.proofs.comparison.take_changes.Goals as goal

pub loop-change-preserved : goal.loop-change-preserved
loop-change-preserved c =
    taken-more c.args.policy.now c.args.changes.now c.loop-change.policy c.loop-change.change-index _ c.requires.ascend c.requires.in_range c.loop-change.invariant c.loop-change-test.true

pub returns : goal.returns
returns c =
    taken-all c.args.policy.now c.args.changes.now c.loop-change.policy
    (subst (λ xs. HasTaken c.args.policy.now xs c.loop-change.policy) (take_all c.loop-change.change-index c.args.changes.now (omega arith)) c.loop-change.invariant)
