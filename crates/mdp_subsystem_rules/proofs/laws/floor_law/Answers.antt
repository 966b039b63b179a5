use Rattle.mdp_subsystem_rules.proofs.Floors.{sub_min_of_floor}
use Rattle.mdp_subsystem_rules.proofs.laws.floor_law.Goals as goal

pub returns : goal.returns
returns c = record { shows = λ m goals kept z ranks start threshold known h f. sub_min_of_floor m goals kept z ranks start threshold known f h }
