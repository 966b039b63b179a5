use Rattle.mdp_rows.specs.Draft.{after_state}
use Rattle.mdp_rows.proofs.{Calls.{after, stays_good}, Calls.Opens.{state_opens}, SoundCalls.{after_state-sound}, Calls.Kept.{IsKept, after_state-kept}}
use Rattle.mdp_rows.proofs.builder.Builder.state.Goals as goal

pub invariant_of-self : goal.invariant_of-self
invariant_of-self c = stays_good c.self.inside.assembly c.args.self.now c.state.new.self c.self.view_is (λ d. after_state d c.args.rewards.now) c.state.result c.state.ensures
    c.self.invariant (λ u s e. after_state-sound c.args.self.now _ c.args.rewards.now s (c.requires.one_each u) e)

pub returns-clause-same : goal.returns-clause-same
returns-clause-same c = after c.self.inside.assembly c.args.self.now c.state.new.self c.self.view_is (λ d. after_state d c.args.rewards.now) c.state.result c.state.ensures _
    (λ u e. IsKept.head (after_state-kept c.args.self.now _ c.args.rewards.now e))

pub returns-clause-state_open : goal.returns-clause-state_open
returns-clause-state_open c = after c.self.inside.assembly c.args.self.now c.state.new.self c.self.view_is (λ d. after_state d c.args.rewards.now) c.state.result c.state.ensures _
    (λ u e. state_opens c.args.self.now _ c.args.rewards.now e)
