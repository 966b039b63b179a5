use Rattle.std.proofs.Common.{take}
use Rattle.mdp_policy_iteration.proofs.Taken.{HasTaken}
use Rattle.mdp_policy_iteration.proofs.comparison.take_changes.Given as goal

abbrev pub invariant-loop-change : goal.invariant-loop-change
invariant-loop-change l = HasTaken l.initial.policy (take l.change-index l.changes) l.policy
