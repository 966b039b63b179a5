use Rattle.std.proofs.Common.{refl}
use Rattle.mdp_policy_iteration.proofs.leader.judged.Goals as goal

pub returns-clause-value : goal.returns-clause-value
returns-clause-value c = rw (← c.in_ok-order.ensures, ← c.if-is_better.ensures) refl

pub returns-then-is_better-clause-value : goal.returns-then-is_better-clause-value
returns-then-is_better-clause-value c = rw (← c.in_ok-order.ensures, ← c.if-is_better.ensures) refl
