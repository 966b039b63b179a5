use Rattle.std.proofs.Common.{map, length}
use Rattle.mdp_drn.specs.Lines.{without_blanks_before}
use Rattle.mdp_drn.proofs.LinesRead.LabelsFrom.{LabelsFrom}
use Rattle.mdp_drn.proofs.labels.read_labels.Given as goal

abbrev pub invariant-loop-rest : goal.invariant-loop-rest
invariant-loop-rest l = LabelsFrom (without_blanks_before l.fn.bytes) l.rest (map (λ label. label.now) l.labels.items)

abbrev pub decreases-loop-rest : goal.decreases-loop-rest
decreases-loop-rest l = length l.rest
