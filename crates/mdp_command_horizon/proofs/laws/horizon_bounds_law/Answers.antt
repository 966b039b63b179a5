use Rattle.mdp_command_horizon.proofs.BoundsPrinting.{printed_of_until, printed_of_total}
use Rattle.mdp_command_horizon.proofs.laws.horizon_bounds_law.Goals as goal

pub returns : goal.returns
returns c = record {
  until = λ dir stay label steps digits m text mdp few due. printed_of_until steps digits m mdp dir stay label text few due;
  total = λ dir name steps digits m text mdp due. printed_of_total steps digits m mdp dir name text due;
}
