use Rattle.std.proofs.Common.{◌∙◌, sym}
use Rattle.mdp_reward.proofs.Starts.{start-finite}
use Rattle.mdp_proposals.proofs.reward.propose_reward.Goals as goal

pub settled_states-requires-clause-finite : goal.settled_states-requires-clause-finite
settled_states-requires-clause-finite c =
    start-finite c.args.dir c.args.model.now c.args.goals.now c.in_ok-start.start.finite c.in_ok-start.start.policy.items c.in_ok-start.start.known.items c.known.ensures.mdp
    (c.in_ok-start.ensures {u = tt})
    ∙ sym c.states.ensures
