use Rattle.std.proofs.Common.{◌∙◌}
use Rattle.mdp_horizon.proofs.Loops.{narrow_part}
use Rattle.mdp_horizon.proofs.whole.plus.Goals as goal

pub returns-clause-narrow : goal.returns-clause-narrow
returns-clause-narrow c = narrow_part _ _ (c.ok.ensures.value ∙ c.plus.ensures)
