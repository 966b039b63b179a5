use Rattle.std.proofs.Common.{◌≡◌, map}
use Rattle.std.specs.List.{range_with_len}
use Rattle.mdp_elim.specs.System.{equation_of}
use Rattle.mdp_elim.proofs.chain.system_of.Given as goal

abbrev pub invariant-loop-s : goal.invariant-loop-s
invariant-loop-s g l = l.equations.items ≡ map (equation_of (g.R.RowsOf.rows l.rows) l.active (map (λ c. c.items) l.columns)) (range_with_len 0 l.s)
