use Rattle.mdp_spec.specs.Mdp.{states_of}
use Rattle.mdp_policy_iteration.proofs.Results.{IsUpTo, up_to-is}
use Rattle.mdp_policy.specs.Written.{constant}
use Rattle.mdp_policy.proofs.evaluate.Evaluation.values.Goals as goal

pub solution-requires-clause-constants : goal.solution-requires-clause-constants
solution-requires-clause-constants c =
    let self = c.args.self in
    IsUpTo.len (up_to-is (constant self.model.now self.goals.now self.marks.now self.policy.now) (states_of self.model.now) c.in_ok-constants.constants.items (c.in_ok-constants.ensures {u = tt}))
