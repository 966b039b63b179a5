use Rattle.std.proofs.Common.{ℕ, ap, inr, refl, ◌∙◌, arith}
use Rattle.mdp_rows.specs.{Draft.{with_place}, Labelling.{Labelling}}
use Rattle.mdp_rows.proofs.Assembled.Labels.{no_state_for_label, past_calls, past_names, label_taken, is_named, is_labelled}
use Rattle.mdp_rows.proofs.Assembled.Outcomes.{at_ok, at_err}
use Rattle.mdp_rows.proofs.assembly.Assembly.try_label.Goals as goal

pub returns-in-Between : goal.returns-in-Between
returns-in-Between c = record { follows = no_state_for_label c.self.inside _ c.args.name.now c.self.view_is c.in-Between.is }

pub returns-then-self-ge-MAX_LABEL_CALLS : goal.returns-then-self-ge-MAX_LABEL_CALLS
returns-then-self-ge-MAX_LABEL_CALLS c = record {
  follows =
      inr (past_calls c.self.inside _ c.args.name.now c.self.view_is c.in_default.not-Between (omega (arith, c.if-self-ge-MAX_LABEL_CALLS.true)));
}

pub returns-then-names_with-gt-MAX_LABELS : goal.returns-then-names_with-gt-MAX_LABELS
returns-then-names_with-gt-MAX_LABELS c =
    record {
      follows = inr (past_names c.self.inside _ c.args.name.now c.self.view_is c.in_default.not-Between (omega (arith, c.if-self-ge-MAX_LABEL_CALLS.false))
          (omega (arith, c.names_with.ensures, c.if-names_with-gt-MAX_LABELS.true)));
    }

pub invariant_of-self-2 : goal.invariant_of-self-2
invariant_of-self-2 c =
    let s = c.in-Ok.ensures {u = tt} in
    let a = at_ok c.add_place.result c.if-is_err.ensures.negation c.add_place.ensures.added in
    is_labelled c.self.inside _ c.args.name.now c.self.view_is c.in_default.not-Between _ _ c.self.invariant (omega (arith, c.if-self-ge-MAX_LABEL_CALLS.false))
    (omega (arith, c.names_with.ensures, c.if-names_with-gt-MAX_LABELS.false))
    s.seen (a ∙ ap (λ (l : ℕ). with_place l c.self.inside.places.items) s.place)

pub returns : goal.returns
returns c =
    let s = c.in-Ok.ensures {u = tt} in
    let a = at_ok c.add_place.result c.if-is_err.ensures.negation c.add_place.ensures.added in
    record {
      follows = label_taken c.self.inside _ c.args.name.now c.self.view_is c.in_default.not-Between _ _ c.self.invariant (omega (arith, c.if-self-ge-MAX_LABEL_CALLS.false))
          (omega (arith, c.names_with.ensures, c.if-names_with-gt-MAX_LABELS.false))
          s.seen (a ∙ ap (λ (l : ℕ). with_place l c.self.inside.places.items) s.place);
    }

pub invariant_of-self-then-is_err : goal.invariant_of-self-then-is_err
invariant_of-self-then-is_err c =
    is_named c.self.inside _ _ c.self.invariant (ap (λ (x : Labelling). x.of_state) (c.in-Ok.ensures {u = tt}).seen)
    (at_err c.add_place.result c.if-is_err.ensures.negation c.add_place.ensures.unchanged)

pub invariant_of-self : goal.invariant_of-self
invariant_of-self c = is_named c.self.inside _ _ c.self.invariant (ap (λ (x : Labelling). x.of_state) (c.in_default-see_name.ensures {u = tt}).unchanged) refl
