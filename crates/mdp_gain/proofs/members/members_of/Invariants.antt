use Rattle.mdp_ends.specs.Ends.{count_of}
use Rattle.mdp_gain.proofs.Sorting.{AreSorted}
use Rattle.mdp_gain.proofs.members.members_of.Given as goal

abbrev pub invariant-loop-s : goal.invariant-loop-s
invariant-loop-s l = AreSorted l.ends.parts (count_of l.ends.parts) l.s l.members
