use Rattle.mdp_parts.proofs.Forbidding.{IsForbidding}
use Rattle.mdp_parts.proofs.search.forbid_at.Given as goal

abbrev pub invariant-loop-c : goal.invariant-loop-c
invariant-loop-c l = IsForbidding l.model l.parts l.s l.c l.initial.allowed l.allowed l.any
