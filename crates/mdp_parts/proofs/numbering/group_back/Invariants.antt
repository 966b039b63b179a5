use Rattle.mdp_parts.proofs.Grouping.{IsGrouping}
use Rattle.mdp_parts.proofs.numbering.group_back.Given as goal

abbrev pub invariant-loop-k : goal.invariant-loop-k
invariant-loop-k l = IsGrouping l.back l.order l.states l.k l.numbers.items l.number
