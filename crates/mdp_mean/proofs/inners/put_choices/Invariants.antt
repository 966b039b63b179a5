use Rattle.mdp_mean.proofs.Putting.{IsPut}
use Rattle.mdp_mean.proofs.inners.put_choices.Given as goal

abbrev pub invariant-loop-k : goal.invariant-loop-k
invariant-loop-k l = IsPut 0 l.fn.values.items l.states l.entries l.k l.values.items
