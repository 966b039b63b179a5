use Rattle.mdp_parts.proofs.Targeting.{AreAppended}
use Rattle.mdp_parts.proofs.edges.push_targets.Given as goal

abbrev pub invariant-loop-c : goal.invariant-loop-c
invariant-loop-c l = AreAppended l.model l.allowed l.s l.c l.initial.targets.items l.targets.items
