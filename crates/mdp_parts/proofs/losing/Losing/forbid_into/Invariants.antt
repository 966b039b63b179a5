use Rattle.mdp_parts.proofs.Pruning.{IsForbiddingInto}
use Rattle.mdp_parts.proofs.losing.Losing.forbid_into.Given as goal

abbrev pub invariant-loop-pred : goal.invariant-loop-pred
invariant-loop-pred l = IsForbiddingInto l.model l.initial.allowed l.allowed l.self.first.items l.initial.self.lost.items l.self.lost.items l.self.seeds.items
