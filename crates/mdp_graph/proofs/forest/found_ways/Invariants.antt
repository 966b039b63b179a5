use Rattle.mdp_graph.proofs.Seeking.{AreFound}
use Rattle.mdp_graph.proofs.forest.found_ways.Given as goal

abbrev pub invariant-loop-s : goal.invariant-loop-s
invariant-loop-s l = AreFound l.model l.goals l.allowed l.ways l.states l.found.items l.s-index
