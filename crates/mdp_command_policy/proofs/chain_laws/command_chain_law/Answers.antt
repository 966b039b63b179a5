use Rattle.mdp_command_policy.proofs.{ChainDue.{chain_once, chain_due}, ChainPrinting.{printed_of_due}}
use Rattle.mdp_command_policy.proofs.chain_laws.command_chain_law.Goals as goal

pub returns : goal.returns
returns c = record { once = chain_once; some = chain_due; text = printed_of_due c.written_law.ensures.reads_back c.chain_law.ensures.chain c.chain_law.ensures.trees }
