use Rattle.std.proofs.Common.{sym, ap}
use Rattle.mdp_job.specs.Job.{plain_pair}
use Rattle.mdp_app.proofs.Deciding.{pair_printed_as}
use Rattle.mdp_app.proofs.tasks.answer_to_pair.Goals as goal

pub returns-in-Policy-clause-printed : goal.returns-in-Policy-clause-printed
returns-in-Policy-clause-printed c = pair_printed_as _ _ _ _ _ (ap plain_pair (sym c.in-Policy.is)) c.policy_query.ensures.printed

pub returns-in-Chain-clause-printed : goal.returns-in-Chain-clause-printed
returns-in-Chain-clause-printed c = pair_printed_as _ _ _ _ _ (ap plain_pair (sym c.in-Chain.is)) c.chain_query.ensures.printed
