use Rattle.std.proofs.Common.{◌≡◌, map, take}
use Rattle.mdp_spec.specs.Mdp.{choices_at}
use Rattle.mdp_horizon.specs.{Columns.{scaled_choice}, Code.{plain_objective}, BoundsCode.{plain_choice}}
use Rattle.mdp_horizon.proofs.columns.Query.scaled_state.Given as goal

abbrev pub invariant-loop-c : goal.invariant-loop-c
invariant-loop-c l = map plain_choice l.choices.items ≡ map (scaled_choice l.fn.self.one (plain_objective l.fn.self.objective)) (take l.c (choices_at l.fn.self.model.now l.s))
