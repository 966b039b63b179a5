use Rattle.mdp_elim.specs.Entries.{divided_entry}
use Rattle.mdp_elim.proofs.Steps.{SoFar}
use Rattle.mdp_elim.proofs.entries.divide_row.Given as goal

abbrev pub invariant-loop-i : goal.invariant-loop-i
invariant-loop-i l = SoFar (divided_entry l.divisor) l.i l.initial.row l.row
