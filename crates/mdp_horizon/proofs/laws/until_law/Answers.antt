use Rattle.mdp_spec.proofs.Until.{until_is_hit}
use Rattle.mdp_horizon.proofs.{Answering.{answers_are_greatest, answers_are_least, bounded_max_unique, bounded_min_unique}, Limits.{greatest_come_close, least_come_close}}
use Rattle.mdp_horizon.proofs.laws.until_law.Goals as goal

pub returns : goal.returns
returns c = record { max = answers_are_greatest; min = answers_are_least; one_max = bounded_max_unique; one_min = bounded_min_unique; hit = until_is_hit; max_close = greatest_come_close; min_close = least_come_close }
