use Rattle.mdp_command.proofs.Accepting.{printed_of_due}
use Rattle.mdp_command.proofs.checking.check_query.Goals as goal

pub returns-clause-printed : goal.returns-clause-printed
returns-clause-printed c = printed_of_due c.check_law.ensures.yes c.args.wanted c.args.model.now c.args.bytes.now _ c.known.ensures.mdp c.of_text.ensures.due
