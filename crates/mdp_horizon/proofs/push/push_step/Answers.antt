use Rattle.mdp_text.proofs.Fronts.{keeps_more}
use Rattle.mdp_horizon.proofs.push.push_step.Goals as goal

pub returns-in_err-push_choices-clause-front : goal.returns-in_err-push_choices-clause-front
returns-in_err-push_choices-clause-front c = keeps_more _ _ _ c.push_parts.ensures.front c.push_choices.ensures.front

pub returns-clause-front : goal.returns-clause-front
returns-clause-front c = keeps_more _ _ _ (keeps_more _ _ _ c.push_parts.ensures.front c.push_choices.ensures.front) c.push_parts-2.ensures.front
