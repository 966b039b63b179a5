use Rattle.std.proofs.Common.{drop}
use Rattle.mdp_spec.specs.Mdp.{state_at}
use Rattle.mdp_drn.specs.Writing.{labels_text}
use Rattle.mdp_drn.proofs.TextWritten.Appending.{Appending}
use Rattle.mdp_drn.proofs.state_text.push_labels.Given as goal

abbrev pub invariant-loop-i : goal.invariant-loop-i
invariant-loop-i l = Appending l.fn.out.items l.out.items (labels_text l.model.labels (drop l.i (state_at l.model l.s).labels)) (labels_text l.model.labels (state_at l.model l.s).labels)
