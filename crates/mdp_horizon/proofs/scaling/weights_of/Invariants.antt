use Rattle.std.proofs.Common.{◌≡◌, ◌+◌, drop}
use Rattle.mdp_horizon.specs.Short.{weights_of}
use Rattle.mdp_horizon.proofs.scaling.weights_of.Given as goal

abbrev pub invariant-loop-term : goal.invariant-loop-term
invariant-loop-term l = l.sum + weights_of (drop l.term-index l.terms) ≡ weights_of l.terms
