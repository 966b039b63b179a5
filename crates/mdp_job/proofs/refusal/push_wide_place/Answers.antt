use Rattle.mdp_text.proofs.Fronts.{keeps_more}
use Rattle.mdp_job.proofs.refusal.push_wide_place.Goals as goal

pub returns-clause-front : goal.returns-clause-front
returns-clause-front c = keeps_more _ _ _ c.push_part.ensures.front c.push_with_place.ensures.front
