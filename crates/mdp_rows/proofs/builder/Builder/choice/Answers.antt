use Rattle.mdp_rows.specs.Draft.{after_choice}
use Rattle.mdp_rows.proofs.{Calls.{after, stays_good}, Calls.Opens.{choice_opens}, SoundCalls.{after_choice-sound}, Calls.Kept.{IsKept, after_choice-kept}}
use Rattle.mdp_rows.proofs.builder.Builder.choice.Goals as goal

pub invariant_of-self : goal.invariant_of-self
invariant_of-self c = stays_good c.self.inside.assembly c.args.self.now c.choice.new.self c.self.view_is (λ d. after_choice d c.args.rewards.now) c.choice.result c.choice.ensures
    c.self.invariant (λ u s e. after_choice-sound c.args.self.now _ c.args.rewards.now s (c.requires.one_each u) e)

pub returns-clause-same : goal.returns-clause-same
returns-clause-same c = after c.self.inside.assembly c.args.self.now c.choice.new.self c.self.view_is (λ d. after_choice d c.args.rewards.now) c.choice.result c.choice.ensures _
    (λ u e. IsKept.head (after_choice-kept c.args.self.now _ c.args.rewards.now e))

pub returns-clause-state_open : goal.returns-clause-state_open
returns-clause-state_open c = after c.self.inside.assembly c.args.self.now c.choice.new.self c.self.view_is (λ d. after_choice d c.args.rewards.now) c.choice.result c.choice.ensures _
    (λ u e. (choice_opens c.args.self.now _ c.args.rewards.now (c.requires.open u) e).0)

pub returns-clause-choice_open : goal.returns-clause-choice_open
returns-clause-choice_open c = after c.self.inside.assembly c.args.self.now c.choice.new.self c.self.view_is (λ d. after_choice d c.args.rewards.now) c.choice.result c.choice.ensures _
    (λ u e. (choice_opens c.args.self.now _ c.args.rewards.now (c.requires.open u) e).1)
