use Rattle.mdp_check.proofs.BoundsStarting.{bounds_no_of_init}
use Rattle.mdp_check.proofs.laws.bounds_start_law.Goals as goal

pub returns : goal.returns
returns c = bounds_no_of_init c.refuted_law.ensures.reach c.refuted_law.ensures.reward c.refuted_law.ensures.mean
