use Rattle.mdp_text.proofs.Fronts.{keeps_more}
use Rattle.mdp_horizon.proofs.push.push_answer.Goals as goal

pub returns-in_err-push_values-clause-front : goal.returns-in_err-push_values-clause-front
returns-in_err-push_values-clause-front c = keeps_more _ _ _ (keeps_more _ _ _ c.push_number.ensures.front c.push_init.ensures.front) c.push_values.ensures.front

pub returns-in_err-push_steps-clause-front : goal.returns-in_err-push_steps-clause-front
returns-in_err-push_steps-clause-front c =
    keeps_more _ _ _ (keeps_more _ _ _ c.push_number.ensures.front c.push_init.ensures.front) (keeps_more _ _ _ c.push_values.ensures.front c.push_steps.ensures.front)

pub returns-clause-front : goal.returns-clause-front
returns-clause-front c =
    keeps_more _ _ _ (keeps_more _ _ _ c.push_number.ensures.front c.push_init.ensures.front)
    (keeps_more _ _ _ (keeps_more _ _ _ c.push_values.ensures.front c.push_steps.ensures.front) c.push_end.ensures.front)
