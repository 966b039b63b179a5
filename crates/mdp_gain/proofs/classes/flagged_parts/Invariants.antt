use Rattle.mdp_gain.proofs.Flagging.{AreFlagged}
use Rattle.mdp_gain.proofs.classes.flagged_parts.Given as goal

abbrev pub invariant-loop-s : goal.invariant-loop-s
invariant-loop-s l = AreFlagged l.flags l.parts l.s l.marks
