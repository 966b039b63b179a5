use Rattle.mdp_text.proofs.Fronts.{keeps_more}
use Rattle.mdp_horizon.proofs.push.push_steps.Goals as goal

pub returns-in_err-push_step-clause-front : goal.returns-in_err-push_step-clause-front
returns-in_err-push_step-clause-front c = keeps_more _ _ _ c.loop-done.invariant.front c.push_step.ensures.front
