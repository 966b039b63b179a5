use Rattle.std.proofs.{Common.{arith}, lemmas.Grind.{common_steps}}
use Rattle.mdp_text.proofs.Fronts.{keeps_more}
use Rattle.mdp_job.proofs.refusal.push_policy.Goals as goal

pub returns-in_err-push_word-clause-front : goal.returns-in_err-push_word-clause-front
returns-in_err-push_word-clause-front c = keeps_more _ _ _ c.loop-choice.invariant.1 c.push_word.ensures.front

pub loop-choice-preserved : goal.loop-choice-preserved
loop-choice-preserved c = (grind (arith, common_steps), keeps_more _ _ _ c.loop-choice.invariant.1 c.push_word.ensures.front)

pub returns-clause-text : goal.returns-clause-text
returns-clause-text c = grind (arith, common_steps)
