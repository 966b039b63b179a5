use Rattle.std.proofs.Common.{drop}
use Rattle.mdp_spec.specs.Row.{entries}
use Rattle.mdp_drn.specs.Writing.{row_text}
use Rattle.mdp_drn.proofs.TextWritten.Appending.{Appending}
use Rattle.mdp_drn.proofs.choice_text.push_row.Given as goal

abbrev pub invariant-loop-i : goal.invariant-loop-i
invariant-loop-i l = Appending l.fn.out.items l.out.items (row_text (entries (drop l.i l.row.targets.now) (drop l.i l.row.probs.now))) (row_text (entries l.row.targets.now l.row.probs.now))
