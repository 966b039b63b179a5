use Rattle.std.proofs.Common.{arith}
use Rattle.mdp_policy_iteration.specs.Marked.{is_taker}
use Rattle.mdp_policy_iteration.proofs.Marking.{none_added, all_added}
use Rattle.mdp_policy_iteration.proofs.affected.add_takers.Goals as goal

pub loop-pred-init : goal.loop-pred-init
loop-pred-init c = none_added _ _ c.requires.marked

pub returns : goal.returns
returns c = all_added (is_taker c.args.policy.now) c.args.choices.now c.loop-pred.pred-index _ _ _ _ c.loop-pred.invariant (omega arith)
