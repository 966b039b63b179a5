use Rattle.mdp_search_bounds.proofs.Nearness.{ten-fits}
use Rattle.mdp_search_bounds.proofs.gap.power_of_ten.Goals as goal

pub pow-requires : goal.pow-requires
pow-requires c = ten-fits c.args.digits c.requires
