use Rattle.std.proofs.{Common.{arith}, lemmas.Grind.{common_steps}}
use Rattle.mdp_job.proofs.bounds_words.bounds_by.Goals as goal

pub returns-then-words-eq8 : goal.returns-then-words-eq8
returns-then-words-eq8 c = grind (arith, common_steps)

pub returns-then-eq-2 : goal.returns-then-eq-2
returns-then-eq-2 c = grind (arith, common_steps)

pub returns-then-eq-3 : goal.returns-then-eq-3
returns-then-eq-3 c = grind (arith, common_steps)

pub returns-then-eq-4 : goal.returns-then-eq-4
returns-then-eq-4 c = grind (arith, common_steps)

pub returns : goal.returns
returns c = grind (arith, common_steps)
