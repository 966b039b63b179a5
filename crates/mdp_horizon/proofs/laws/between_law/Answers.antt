use Rattle.mdp_horizon.proofs.Answering.{greatest_lies, least_lies, greatest_total_lies, least_total_lies}
use Rattle.mdp_horizon.proofs.laws.between_law.Goals as goal

pub returns : goal.returns
returns c = record { until_max = greatest_lies; until_min = least_lies; total_max = greatest_total_lies; total_min = least_total_lies }
