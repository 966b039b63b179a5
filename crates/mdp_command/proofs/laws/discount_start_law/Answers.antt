use Rattle.mdp_command.proofs.DiscountStarting.{exact_no_of_init, bounds_no_of_init}
use Rattle.mdp_command.proofs.laws.discount_start_law.Goals as goal

pub returns : goal.returns
returns c = record { exact = exact_no_of_init c.discount_no_law.ensures.refuted; bounds = bounds_no_of_init c.discount_bounds_no_law.ensures.refuted }
