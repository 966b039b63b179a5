use Rattle.std.proofs.Common.{◌≡◌, ◌<◌, drop}
use Rattle.mdp_horizon.specs.{Finer.{widened_in, widest}, Code.{plain_objective}}
use Rattle.mdp_horizon.proofs.columns.Query.widest.Given as goal

abbrev pub invariant-loop-s : goal.invariant-loop-s
invariant-loop-s l = record {
  rest : widened_in (plain_objective l.fn.self.objective) l.widest (drop l.s l.fn.self.model.now.states) ≡ widest l.fn.self.model.now (plain_objective l.fn.self.objective);
  common : 0 < l.widest.common;
  reach : 0 < l.widest.reach;
}
