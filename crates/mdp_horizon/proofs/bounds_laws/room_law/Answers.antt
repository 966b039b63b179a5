use Rattle.mdp_horizon.proofs.Room.{none_wide}
use Rattle.mdp_horizon.proofs.bounds_laws.room_law.Goals as goal

pub returns : goal.returns
returns c = none_wide
