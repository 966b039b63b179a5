use Rattle.mdp_command_horizon.proofs.Printing.{printed_of_due}
use Rattle.mdp_command_horizon.proofs.laws.horizon_law.Goals as goal

pub returns : goal.returns
returns c dir stay label steps m text mdp due = printed_of_due c.until_law.ensures.max c.until_law.ensures.min stay label steps m mdp text dir due
