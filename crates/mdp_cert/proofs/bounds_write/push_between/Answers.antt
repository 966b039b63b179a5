use Rattle.mdp_text.proofs.Fronts.{keeps_more}
use Rattle.mdp_cert.proofs.bounds_write.push_between.Goals as goal

pub returns-in_err-push_value-clause-front : goal.returns-in_err-push_value-clause-front
returns-in_err-push_value-clause-front c = keeps_more _ _ _ c.in_ok-push_start.ensures.front c.push_value.ensures.front

pub returns-in_err-push_value-2-clause-front : goal.returns-in_err-push_value-2-clause-front
returns-in_err-push_value-2-clause-front c =
    keeps_more _ _ _ (keeps_more _ _ _ c.in_ok-push_start.ensures.front c.in_ok-push_value.ensures.front) c.push_value-2.ensures.front

pub returns-clause-front : goal.returns-clause-front
returns-clause-front c =
    let lower = keeps_more _ _ _ c.in_ok-push_start.ensures.front c.in_ok-push_value.ensures.front in
    keeps_more _ _ _ (keeps_more _ _ _ lower c.in_ok-push_value-2.ensures.front) c.push_parts.ensures.front
