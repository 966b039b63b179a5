use Rattle.mdp_spec.specs.Mdp.{states_of}
use Rattle.mdp_policy_iteration.proofs.Results.{up_to-is}
use Rattle.mdp_mean.specs.{Code.{joining_in}, Join.{constant}}
use Rattle.mdp_mean.proofs.bias.bias_of.Goals as goal

pub solution_of-requires-clause-constants : goal.solution_of-requires-clause-constants
solution_of-requires-clause-constants c =
    let j = joining_in c.args.join.now in
    (up_to-is (constant j) (states_of j.model) c.in_ok-constants.constants.items (c.in_ok-constants.ensures {u = tt})).len
