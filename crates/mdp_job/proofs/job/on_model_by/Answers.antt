use Rattle.std.proofs.{Common.{arith}, lemmas.Grind.{common_steps}}
use Rattle.mdp_job.proofs.job.on_model_by.Goals as goal

pub returns-in-horizon : goal.returns-in-horizon
returns-in-horizon c = grind (arith, common_steps)

pub returns-in-total : goal.returns-in-total
returns-in-total c = grind (arith, common_steps)

pub returns-in-discount : goal.returns-in-discount
returns-in-discount c = grind (arith, common_steps)

pub returns-in-bounds : goal.returns-in-bounds
returns-in-bounds c = grind (arith, common_steps)
