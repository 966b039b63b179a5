use Rattle.std.proofs.Common.{refl}
use Rattle.mdp_command_policy.proofs.ChainDue.{names_due, names_refused}
use Rattle.mdp_command_policy.proofs.chaining.of_text.Goals as goal

pub returns-in-Ok-clause-due : goal.returns-in-Ok-clause-due
returns-in-Ok-clause-due c = names_due c.args.model.now _ _ _ _ c.deref.ensures.value c.in-Ok.ensures.named c.of_policy.ensures.due

pub returns-in-Err-clause-due : goal.returns-in-Err-clause-due
returns-in-Err-clause-due c = names_refused c.args.model.now _ _ _ refl c.in-Err.ensures.named
