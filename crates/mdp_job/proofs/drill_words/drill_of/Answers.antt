use Rattle.std.proofs.{Common.{arith}, lemmas.Grind.{common_steps}}
use Rattle.mdp_job.proofs.drill_words.drill_of.Goals as goal

pub returns-in_default-whole_word-2 : goal.returns-in_default-whole_word-2
returns-in_default-whole_word-2 c = grind (arith, common_steps)

pub returns-in_default-whole_word-3 : goal.returns-in_default-whole_word-3
returns-in_default-whole_word-3 c = grind (arith, common_steps)

pub returns : goal.returns
returns c = grind (arith, common_steps)
