use Rattle.std.proofs.Common.{◌≡◌, ℕ, ◌<◌, ◌≤◌, true, get_or}
use Rattle.mdp_graph.specs.Sets.{marked}
use Rattle.mdp_parts.proofs.depth.first_unmet.Given as goal

abbrev pub invariant-loop-k : goal.invariant-loop-k
invariant-loop-k l = (j : ℕ) → j < l.k → l.from ≤ j → marked l.met (get_or l.targets j 0) ≡ true
