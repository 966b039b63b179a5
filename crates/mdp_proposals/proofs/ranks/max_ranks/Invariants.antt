use Rattle.mdp_spec.specs.Mdp.{states_of}
use Rattle.mdp_proposals.proofs.Below.{AreBelow}
use Rattle.mdp_proposals.proofs.ranks.max_ranks.Given as goal

abbrev pub invariant-loop-s : goal.invariant-loop-s
invariant-loop-s l = AreBelow (states_of l.model) l.s l.edges
