use Rattle.mdp_rows.specs.Draft.{choice_closed}
use Rattle.mdp_rows.proofs.{Calls.{after, stays_good}, Calls.Closes.{row_is_closed}, SoundCalls.{choice_closed-sound}, Calls.Kept.{IsKept, choice_closed-kept}}
use Rattle.mdp_rows.proofs.builder.Builder.close_choice.Goals as goal

pub invariant_of-self : goal.invariant_of-self
invariant_of-self c = stays_good c.self.inside.assembly c.args.self.now c.close_choice.new.self c.self.view_is (λ d. choice_closed d) c.close_choice.result c.close_choice.ensures
    c.self.invariant (λ u s e. choice_closed-sound c.args.self.now _ s e)

pub returns-clause-same : goal.returns-clause-same
returns-clause-same c = after c.self.inside.assembly c.args.self.now c.close_choice.new.self c.self.view_is (λ d. choice_closed d) c.close_choice.result c.close_choice.ensures _
    (λ u e. IsKept.head (choice_closed-kept c.args.self.now _ e))

pub returns-clause-closed : goal.returns-clause-closed
returns-clause-closed c = after c.self.inside.assembly c.args.self.now c.close_choice.new.self c.self.view_is (λ d. choice_closed d) c.close_choice.result c.close_choice.ensures _
    (λ u e. row_is_closed c.args.self.now _ e)
