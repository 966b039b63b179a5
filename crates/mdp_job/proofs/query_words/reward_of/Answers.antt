use Rattle.std.proofs.{Common.{arith}, lemmas.Grind.{common_steps}}
use Rattle.mdp_job.proofs.query_words.reward_of.Goals as goal

pub returns : goal.returns
returns c = grind (arith, common_steps)
