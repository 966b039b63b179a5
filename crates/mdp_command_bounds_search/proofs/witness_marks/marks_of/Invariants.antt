use Rattle.std.proofs.Common.{◌≡◌}
use Rattle.mdp_command_bounds_search.specs.WitnessMarks.{marks_of}
use Rattle.mdp_command_bounds_search.proofs.witness_marks.marks_of.Given as goal

-- the marks of the states that were passed
abbrev pub invariant-loop-s : goal.invariant-loop-s
invariant-loop-s l = l.marks.items ≡ marks_of l.s l.kept l.needed
