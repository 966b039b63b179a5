use Rattle.std.proofs.Common.{◌≡◌, ◌≤◌, drop}
use Rattle.mdp_spec.specs.Mdp.{choices_at}
use Rattle.mdp_horizon.specs.{Finer.{widened_by}, Code.{plain_objective}}
use Rattle.mdp_horizon.proofs.columns.Query.widened_by.Given as goal

abbrev pub invariant-loop-c : goal.invariant-loop-c
invariant-loop-c l = record {
  rest :
      widened_by (plain_objective l.fn.self.objective) l.widest (drop l.c (choices_at l.fn.self.model.now l.s)) ≡ widened_by (plain_objective l.fn.self.objective) l.fn.widest (choices_at l.fn.self.model.now l.s);
  common : l.fn.widest.common ≤ l.widest.common;
  reach : l.fn.widest.reach ≤ l.widest.reach;
}
