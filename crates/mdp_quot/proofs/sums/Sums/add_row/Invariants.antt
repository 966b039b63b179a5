use Rattle.std.proofs.Common.{length, take, slice_index}
use Rattle.mdp_spec.specs.Row.{entries}
use Rattle.mdp_quot.specs.Sums.{AreSums}
use Rattle.mdp_quot.proofs.sums.Sums.add_row.Given as goal

abbrev pub invariant-loop-i : goal.invariant-loop-i
invariant-loop-i l = AreSums (length l.initial.self.sums.items) (slice_index l.nodes) (take l.i (entries l.row.targets.now l.row.probs.now)) l.self.sums.items l.self.seen.items
