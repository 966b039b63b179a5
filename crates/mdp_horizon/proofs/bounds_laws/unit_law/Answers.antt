use Rattle.mdp_horizon.proofs.Fineness.{unit-fine}
use Rattle.mdp_horizon.proofs.bounds_laws.unit_law.Goals as goal

pub returns : goal.returns
returns c = unit-fine
