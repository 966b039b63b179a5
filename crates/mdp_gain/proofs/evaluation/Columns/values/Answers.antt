use Rattle.mdp_policy_iteration.proofs.Results.{IsUpTo, up_to-is}
use Rattle.mdp_unichain.specs.Component.{count}
use Rattle.mdp_gain.specs.{Code.{component_in}, Policies.{bias_in}}
use Rattle.mdp_gain.proofs.evaluation.Columns.values.Goals as goal

pub returns-clause-count : goal.returns-clause-count
returns-clause-count c =
    IsUpTo.len
    (up_to-is (bias_in c.args.self.now c.in_ok-gain.gain) (count (component_in c.args.self.now.of.chosen.component)) c.in_ok-bias.bias.items (c.in_ok-bias.ensures {u = tt}))
