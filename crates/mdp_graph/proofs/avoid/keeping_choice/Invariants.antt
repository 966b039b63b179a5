use Rattle.std.proofs.Common.{◌≡◌, ◌<◌, ℕ, false}
use Rattle.mdp_graph.specs.Avoid.{keeps}
use Rattle.mdp_graph.proofs.avoid.keeping_choice.Given as goal

abbrev pub invariant-loop-c : goal.invariant-loop-c
invariant-loop-c l = (k : ℕ) → k < l.c → keeps l.model l.marks l.s k ≡ false
