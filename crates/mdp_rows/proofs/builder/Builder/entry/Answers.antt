use Rattle.mdp_rows.specs.Draft.{after_entry}
use Rattle.mdp_rows.proofs.{Calls.{after, stays_good}, Calls.Opens.{entry_keeps}, SoundCalls.{after_entry-sound}, Calls.Kept.{IsKept, after_entry-kept}}
use Rattle.mdp_rows.proofs.builder.Builder.entry.Goals as goal

pub invariant_of-self : goal.invariant_of-self
invariant_of-self c = stays_good c.self.inside.assembly c.args.self.now c.entry.new.self c.self.view_is (λ d. after_entry d c.args.target c.args.value) c.entry.result c.entry.ensures
    c.self.invariant (λ u s e. after_entry-sound c.args.self.now _ c.args.target c.args.value s c.requires.term e)

pub returns-clause-same : goal.returns-clause-same
returns-clause-same c = after c.self.inside.assembly c.args.self.now c.entry.new.self c.self.view_is (λ d. after_entry d c.args.target c.args.value) c.entry.result c.entry.ensures _
    (λ u e. IsKept.head (after_entry-kept c.args.self.now _ c.args.target c.args.value e))

pub returns-clause-state_open : goal.returns-clause-state_open
returns-clause-state_open c = after c.self.inside.assembly c.args.self.now c.entry.new.self c.self.view_is (λ d. after_entry d c.args.target c.args.value) c.entry.result c.entry.ensures _
    (λ u e. (entry_keeps c.args.self.now _ c.args.target c.args.value (c.requires.open u) e).0)

pub returns-clause-choice_open : goal.returns-clause-choice_open
returns-clause-choice_open c = after c.self.inside.assembly c.args.self.now c.entry.new.self c.self.view_is (λ d. after_entry d c.args.target c.args.value) c.entry.result c.entry.ensures _
    (λ u e. (entry_keeps c.args.self.now _ c.args.target c.args.value (c.requires.open u) e).1)
