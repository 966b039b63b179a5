use Rattle.mdp_text.proofs.Fronts.{keeps_more}
use Rattle.mdp_cert.proofs.bounds_write.push_head.Goals as goal

pub returns-in_err-push_claim-clause-front : goal.returns-in_err-push_claim-clause-front
returns-in_err-push_claim-clause-front c = keeps_more _ _ _ c.in_ok-push_parts.ensures.front c.push_claim.ensures.front

pub returns-in_err-push_number-clause-front : goal.returns-in_err-push_number-clause-front
returns-in_err-push_number-clause-front c =
    keeps_more _ _ _ (keeps_more _ _ _ c.in_ok-push_parts.ensures.front c.in_ok-push_claim.ensures.front) c.push_number.ensures.front

pub returns-clause-front : goal.returns-clause-front
returns-clause-front c =
    let claim = keeps_more _ _ _ c.in_ok-push_parts.ensures.front c.in_ok-push_claim.ensures.front in
    keeps_more _ _ _ (keeps_more _ _ _ claim c.in_ok-push_number.ensures.front) c.push_init.ensures.front
