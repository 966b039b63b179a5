use Rattle.std.proofs.Common.{◌≡◌, map, drop, IsTrue}
use Rattle.mdp_rows.specs.Draft.{has_state}
use Rattle.mdp_drn.specs.{Body.{with_labels}, BodyView.{IsBody, IsSameBeside}}
use Rattle.mdp_drn.proofs.body.Body.give_labels.Given as goal

abbrev pub invariant-loop-label : goal.invariant-loop-label
invariant-loop-label l = record {
  given : (let names = map (λ label. label.now) l.labels in with_labels names l.initial.self.builder ≡ with_labels (drop l.label-index names) l.self.builder);
  beside : IsSameBeside l.initial.self l.self;
  body : IsBody l.self;
  state : IsTrue (has_state l.self.builder);
}
