use Rattle.std.proofs.Common.{◌≡◌, map}
use Rattle.std.specs.List.{range_with_len}
use Rattle.mdp_horizon.specs.{Objective.{ending}, Code.{plain_objective}}
use Rattle.mdp_horizon.proofs.backup.Query.endings.Given as goal

abbrev pub invariant-loop-s : goal.invariant-loop-s
invariant-loop-s l = l.values.items ≡ map (ending l.fn.self.model.now (plain_objective l.fn.self.objective)) (range_with_len 0 l.s)
