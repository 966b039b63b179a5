use Rattle.std.proofs.Common.{◌∙◌, List, map, ap}
use Rattle.mdp_horizon.specs.{declared.choice.Choices.{Choices}, Columns.{scaled_state}, Code.{plain_objective}, BoundsCode.{plain_choices}}
use Rattle.mdp_horizon.proofs.More.{seen_more}
use Rattle.mdp_horizon.proofs.columns.Query.scaled_states.Goals as goal

pub loop-s-preserved : goal.loop-s-preserved
loop-s-preserved c =
    ap (λ (rows : List Choices). map plain_choices rows) (c.in_ok-push.ensures {u = tt}).items
    ∙ seen_more plain_choices (scaled_state c.args.self.one c.args.self.model.now (plain_objective c.args.self.objective)) c.loop-s.s c.loop-s.rows.items c.in_ok-scaled_state.field-0 c.loop-s.invariant
    (c.in_ok-scaled_state.ensures {u = tt})
