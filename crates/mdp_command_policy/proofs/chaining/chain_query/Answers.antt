use Rattle.mdp_command_policy.proofs.ChainPrinting.{printed}
use Rattle.mdp_command_policy.proofs.chaining.chain_query.Goals as goal

pub returns-clause-printed : goal.returns-clause-printed
returns-clause-printed c = printed c.command_chain_law.ensures.text c.args.model.now c.args.bytes.now _ c.known.ensures.model c.of_text.ensures.due
