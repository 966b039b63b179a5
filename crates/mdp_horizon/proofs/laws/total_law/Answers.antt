use Rattle.mdp_horizon.proofs.Answering.{totals_are_greatest, totals_are_least, total_max_unique, total_min_unique}
use Rattle.mdp_horizon.proofs.laws.total_law.Goals as goal

pub returns : goal.returns
returns c = record { max = totals_are_greatest; min = totals_are_least; one_max = total_max_unique; one_min = total_min_unique }
