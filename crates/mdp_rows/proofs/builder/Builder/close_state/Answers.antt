use Rattle.mdp_rows.specs.Draft.{all_closed}
use Rattle.mdp_rows.proofs.{Calls.{after, stays_good}, Calls.Closes.{all_are_closed}, SoundCalls.{all_closed-sound}, Calls.Kept.{IsKept, all_closed-kept}}
use Rattle.mdp_rows.proofs.builder.Builder.close_state.Goals as goal

pub invariant_of-self : goal.invariant_of-self
invariant_of-self c = stays_good c.self.inside.assembly c.args.self.now c.close_state.new.self c.self.view_is (λ d. all_closed d) c.close_state.result c.close_state.ensures c.self.invariant
    (λ u s e. all_closed-sound c.args.self.now _ s e)

pub returns-clause-same : goal.returns-clause-same
returns-clause-same c = after c.self.inside.assembly c.args.self.now c.close_state.new.self c.self.view_is (λ d. all_closed d) c.close_state.result c.close_state.ensures _
    (λ u e. IsKept.head (all_closed-kept c.args.self.now _ e))

pub returns-clause-closed : goal.returns-clause-closed
returns-clause-closed c = after c.self.inside.assembly c.args.self.now c.close_state.new.self c.self.view_is (λ d. all_closed d) c.close_state.result c.close_state.ensures _
    (λ u e. all_are_closed c.args.self.now _ e)
