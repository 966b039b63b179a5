use Rattle.mdp_parts.proofs.Gathering.{IsGathering}
use Rattle.mdp_parts.proofs.region.Region.gather.Given as goal

abbrev pub invariant-loop-next : goal.invariant-loop-next
invariant-loop-next l = IsGathering l.model l.allowed l.self.places.items l.self.list.items l.next
