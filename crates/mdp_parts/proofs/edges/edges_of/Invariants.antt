use Rattle.mdp_parts.specs.Allowed.{allowed_at}
use Rattle.mdp_parts.proofs.Targeting.{AreInOne}
use Rattle.mdp_parts.proofs.edges.edges_of.Given as goal

abbrev pub invariant-loop-s : goal.invariant-loop-s
invariant-loop-s l = AreInOne l.model (allowed_at l.allowed) l.s l.targets.items l.starts.items
