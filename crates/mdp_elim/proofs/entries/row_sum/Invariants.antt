use Rattle.std.proofs.Common.{◌≡◌, drop}
use Rattle.mdp_spec.specs.Written.{written_sum}
use Rattle.mdp_elim.proofs.entries.row_sum.Given as goal

abbrev pub invariant-loop-x : goal.invariant-loop-x
invariant-loop-x l = written_sum l.values l.fn.start l.row ≡ written_sum l.values l.sum (drop l.x-index l.row)
