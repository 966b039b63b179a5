use Rattle.mdp_text.proofs.Fronts.{keeps_more}
use Rattle.mdp_horizon.proofs.bounds_push.push_states.Goals as goal

pub returns-in_err-push_values-clause-front : goal.returns-in_err-push_values-clause-front
returns-in_err-push_values-clause-front c = keeps_more _ _ _ c.loop-s.invariant.front c.push_values.ensures.front
