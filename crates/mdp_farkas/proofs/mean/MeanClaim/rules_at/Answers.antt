use Rattle.std.proofs.Common.{◌++◌}
use Rattle.mdp_farkas.specs.MeanClaim.{gains_at, bounds_at, policy_at}
use Rattle.mdp_farkas.proofs.Objections.{goes_on}
use Rattle.mdp_farkas.proofs.mean.MeanClaim.rules_at.Goals as goal

pub returns : goal.returns
returns c =
    let bounds = bounds_at c.args.self c.args.s in
    let policy = policy_at c.args.self c.args.s c.args.choice in
    goes_on (gains_at c.args.self c.args.s) (bounds ++ policy) tt c.policy_at.result (c.in_ok-gains_at.ensures {u = tt})
    (goes_on bounds policy tt c.policy_at.result (c.in_ok-bounds_at.ensures {u = tt}) c.policy_at.ensures)
