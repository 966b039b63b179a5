use Rattle.mdp_parts.specs.Losing.{IsPruned, AreLosing}
use Rattle.mdp_parts.proofs.losing.Losing.forbid_entering.Given as goal

abbrev pub invariant-loop-t : goal.invariant-loop-t
invariant-loop-t l = record {
  pruned : IsPruned l.model l.initial.allowed l.allowed;
  losing : AreLosing l.model l.allowed l.self.first.items l.self.lost.items l.self.seeds.items;
}
