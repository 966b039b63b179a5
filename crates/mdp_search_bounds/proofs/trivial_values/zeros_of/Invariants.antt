use Rattle.std.proofs.Common.{◌≡◌}
use Rattle.mdp_search_bounds.specs.Values.{zeros_of}
use Rattle.mdp_search_bounds.proofs.trivial_values.zeros_of.Given as goal

abbrev pub invariant-loop-s : goal.invariant-loop-s
invariant-loop-s l = l.values.items ≡ zeros_of l.s l.marks
