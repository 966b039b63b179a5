use Rattle.std.proofs.Common.{slice_index}
use Rattle.mdp_rows.proofs.Queries.Policies.{rows_known}
use Rattle.mdp_rows.proofs.policy_rows.PolicyRowsRowsOf.known.Goals as goal

pub returns : goal.returns
returns c = rows_known _ (slice_index c.args.self.now.policy.now) c.known.ensures.mdp c.args.self.now.chosen.in_range
