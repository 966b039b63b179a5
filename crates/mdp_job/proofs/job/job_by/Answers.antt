use Rattle.std.proofs.{Common.{arith}, lemmas.Grind.{common_steps}}
use Rattle.mdp_job.proofs.job.job_by.Goals as goal

pub returns-in-drill : goal.returns-in-drill
returns-in-drill c = grind (arith, common_steps)

pub returns-in-policy : goal.returns-in-policy
returns-in-policy c = grind (arith, common_steps)

pub returns-in-chain : goal.returns-in-chain
returns-in-chain c = grind (arith, common_steps)

pub returns-in-text-2 : goal.returns-in-text-2
returns-in-text-2 c = grind (arith, common_steps)
