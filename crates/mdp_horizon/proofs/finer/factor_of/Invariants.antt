use Rattle.std.proofs.Common.{◌≡◌}
use Rattle.mdp_horizon.specs.Finer.{finer_by}
use Rattle.mdp_horizon.proofs.finer.factor_of.Given as goal

abbrev pub invariant-loop : goal.invariant-loop
invariant-loop l = l.factor ≡ finer_by l.steps l.room l.counter
