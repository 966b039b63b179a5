use Rattle.std.proofs.Common.{◌≡◌, List, ℕ, Option, sym, ap, ◌∙◌}
use Rattle.std.specs.{Str.{bytes_eq}, Global.{Vec}, List.{position}}
use Rattle.mdp_spec.specs.Labels.{place_of}
use Rattle.mdp_rows.specs.{FlatStateLabels.{state_labels_in}, Labelling.{Labelling}, declared.state_labels.StateLabels.TheInside.{Inside}}
use Rattle.mdp_rows.proofs.{Flat.StateLabels.{names_are}, Flat.Names.{position-map}}
use Rattle.mdp_rows.proofs.state_labels.StateLabels.place.Goals as goal

found : (a : Inside) (v : Labelling) (name : List ℕ) (names : List (Vec ℕ)) (o : Option ℕ) → state_labels_in a ≡ v → names ≡ a.names.items
    → o ≡ position (λ (k : Vec ℕ). bytes_eq name k.items) names → o ≡ place_of name v.names
found a v name names o is e f =
    f ∙ ap (position (λ (k : Vec ℕ). bytes_eq name k.items)) e ∙ sym (position-map (bytes_eq name) (λ (k : Vec ℕ). k.items) a.names.items) ∙ ap (place_of name) (names_are a v is)

pub returns-in_err-place : goal.returns-in_err-place
returns-in_err-place c = c.from_residual.ensures ∙ found _ _ c.args.name.now _ _ c.self.view_is c.deref.ensures.value (sym (c.in_err-place.was {u = tt}) ∙ c.place_in.ensures)

pub returns : goal.returns
returns c = found _ _ c.args.name.now _ _ c.self.view_is c.deref.ensures.value (sym (c.in_ok-place.was {u = tt}) ∙ c.place_in.ensures)
