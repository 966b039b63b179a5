use Rattle.std.proofs.Common.{◌≡◌, drop}
use Rattle.mdp_bounds.specs.Mean.{exact_best}
use Rattle.mdp_bounds.proofs.spread.best_from.Given as goal

abbrev pub invariant-loop-number : goal.invariant-loop-number
invariant-loop-number l = exact_best l.dir l.fn.first l.numbers ≡ exact_best l.dir l.best (drop l.number-index l.numbers)
