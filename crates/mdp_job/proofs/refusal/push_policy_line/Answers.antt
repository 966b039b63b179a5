use Rattle.mdp_text.proofs.Fronts.{keeps_more}
use Rattle.mdp_job.proofs.refusal.push_policy_line.Goals as goal

pub returns-in_err-push_policy-clause-front : goal.returns-in_err-push_policy-clause-front
returns-in_err-push_policy-clause-front c = keeps_more _ _ _ c.push_line.ensures.front c.push_policy.ensures.front

pub returns-clause-front : goal.returns-clause-front
returns-clause-front c = keeps_more _ _ _ (keeps_more _ _ _ c.push_line.ensures.front c.push_policy.ensures.front) c.push_line-2.ensures.front
