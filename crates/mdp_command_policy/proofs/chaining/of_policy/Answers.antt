use Rattle.mdp_command_policy.proofs.ChainDue.{made_due}
use Rattle.mdp_command_policy.proofs.chaining.of_policy.Goals as goal

pub returns-in-Ok-clause-due : goal.returns-in-Ok-clause-due
returns-in-Ok-clause-due c = made_due c.args.model.now _ c.args.policy.now _ c.in-Ok.ensures.chain c.in-Ok.ensures.policy c.text_of.ensures
