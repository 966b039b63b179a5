use Rattle.mdp_command_policy.proofs.Printing.{printed}
use Rattle.mdp_command_policy.proofs.valuing.policy_query.Goals as goal

pub returns-clause-printed : goal.returns-clause-printed
returns-clause-printed c = printed c.policy_law.ensures.value _ c.args.label.now c.args.model.now c.args.bytes.now _ c.known.ensures.mdp c.of_text.ensures.due
