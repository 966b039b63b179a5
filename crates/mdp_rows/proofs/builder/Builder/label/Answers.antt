use Rattle.mdp_rows.specs.Draft.{after_label}
use Rattle.mdp_rows.proofs.{Calls.{after, stays_good}, Calls.Opens.{label_keeps}, SoundCalls.{after_label-sound}, Calls.Kept.{IsKept, after_label-kept}}
use Rattle.mdp_rows.proofs.builder.Builder.label.Goals as goal

pub invariant_of-self : goal.invariant_of-self
invariant_of-self c = stays_good c.self.inside.assembly c.args.self.now c.label.new.self c.self.view_is (λ d. after_label d c.args.name.now) c.label.result c.label.ensures c.self.invariant
    (λ u s e. after_label-sound c.args.self.now _ c.args.name.now s c.requires.name e)

pub returns-clause-same : goal.returns-clause-same
returns-clause-same c = after c.self.inside.assembly c.args.self.now c.label.new.self c.self.view_is (λ d. after_label d c.args.name.now) c.label.result c.label.ensures _
    (λ u e. IsKept.head (after_label-kept c.args.self.now _ c.args.name.now e))

pub returns-clause-state_open : goal.returns-clause-state_open
returns-clause-state_open c = after c.self.inside.assembly c.args.self.now c.label.new.self c.self.view_is (λ d. after_label d c.args.name.now) c.label.result c.label.ensures _
    (λ u e. label_keeps c.args.self.now _ c.args.name.now (c.requires.open u) e)
