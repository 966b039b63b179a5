use Rattle.std.proofs.Common.{◌≡◌, length, map, reverse, Ok}
use Rattle.mdp_spec.specs.Mdp.{states_of}
use Rattle.mdp_horizon.specs.{Written.{in_turn, next_step, no_steps}, Code.{plain_objective}}
use Rattle.mdp_horizon.proofs.steps.values_within.Given as goal

abbrev pub invariant-loop-done : goal.invariant-loop-done
invariant-loop-done l = record {
  made : in_turn (next_step l.fn.query.dir l.fn.query.model.now (plain_objective l.fn.query.objective)) (Ok (no_steps l.fn.query.model.now (plain_objective l.fn.query.objective))) l.done
      ≡ Ok (record { values = l.values.items; steps = map (λ choices. choices.items) (reverse l.table.items) });
  one_each : length l.values.items ≡ states_of l.fn.query.model.now;
}
