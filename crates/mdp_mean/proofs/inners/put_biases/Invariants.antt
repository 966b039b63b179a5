use Rattle.mdp_farkas.specs.Compare.{0ℚ}
use Rattle.mdp_mean.proofs.Putting.{IsPut}
use Rattle.mdp_mean.proofs.inners.put_biases.Given as goal

abbrev pub invariant-loop-k : goal.invariant-loop-k
invariant-loop-k l = IsPut 0ℚ l.fn.values.items l.states l.entries l.k l.values.items
