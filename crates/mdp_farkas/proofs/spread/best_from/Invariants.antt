use Rattle.std.proofs.Common.{◌≡◌, drop}
use Rattle.mdp_farkas.specs.Spread.{written_best}
use Rattle.mdp_farkas.proofs.spread.best_from.Given as goal

abbrev pub invariant-loop-number : goal.invariant-loop-number
invariant-loop-number l = written_best l.dir l.fn.first l.numbers ≡ written_best l.dir l.best (drop l.number-index l.numbers)
