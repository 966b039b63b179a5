use Rattle.mdp_command_horizon.proofs.Printing.{printed_of_total_due}
use Rattle.mdp_command_horizon.proofs.laws.total_text_law.Goals as goal

pub returns : goal.returns
returns c dir name steps m text mdp due = printed_of_total_due c.total_law.ensures.max c.total_law.ensures.min name steps m mdp text dir due
