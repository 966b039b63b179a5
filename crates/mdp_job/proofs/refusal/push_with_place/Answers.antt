use Rattle.std.proofs.{Common.{arith}, lemmas.Grind.{common_steps}}
use Rattle.mdp_text.proofs.Fronts.{keeps_more}
use Rattle.mdp_job.proofs.refusal.push_with_place.Goals as goal

pub returns-clause-front : goal.returns-clause-front
returns-clause-front c = keeps_more _ _ _ c.push_parts.ensures.front c.push_parts-2.ensures.front

pub returns-clause-text : goal.returns-clause-text
returns-clause-text c = grind (arith, common_steps)
