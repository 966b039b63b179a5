use Rattle.std.proofs.Common.{inl, inr, refl, List, ℕ, [], ◌∷◌, ◌++◌, length, ap, sym, subst, ◌∙◌, arith}
use Rattle.mdp_rows.proofs.{Assembled.Drafts.{no_state_to_close, state_refused, state_kept, is_with_state, is_with_room}, Assembled.Outcomes.{at_ok, at_err}}
use Rattle.mdp_rows.specs.{Labelling.{Labelling}, FlatDraft.{IsDraft}}
use Rattle.mdp_rows.proofs.assembly.Assembly.end_state.Goals as goal

pub returns-in_default : goal.returns-in_default
returns-in_default c = record { follows = no_state_to_close c.self.inside _ c.self.view_is c.in_default.not-InState c.requires }

pub returns-then-end-self : goal.returns-then-end-self
returns-then-end-self c =
    record {
      follows = inr (state_refused c.self.inside _ c.states-state.result c.len-end.result c.self.view_is c.self.invariant c.in-InState.is c.states-state.ensures c.len-end.ensures
          c.if-end-self.true);
    }

pub invariant_of-self-2 : goal.invariant_of-self-2
invariant_of-self-2 c =
    let g = rw c.deref.ensures.value at (at_ok c.push_state.result c.if-is_err-2.ensures.negation c.push_state.ensures.appended) in
    let p = rw c.if-is_err-3.ensures.negation at c.push.ensures.items in
    is_with_state c.self.inside _ _ c.len-end.result c.self.invariant c.in-InState.is c.len-end.ensures c.if-end-self.false g
    (p ∙ ap (λ (xs : List ℕ). xs ++ c.len-end.result ∷ []) c.reserve.ensures.items)

pub returns : goal.returns
returns c =
    let g = rw c.deref.ensures.value at (at_ok c.push_state.result c.if-is_err-2.ensures.negation c.push_state.ensures.appended) in
    let p = rw c.if-is_err-3.ensures.negation at c.push.ensures.items in
    record {
      follows = state_kept c.self.inside _ _ c.len-end.result c.self.invariant c.in-InState.is c.len-end.ensures c.if-end-self.false g
          (p ∙ ap (λ (xs : List ℕ). xs ++ c.len-end.result ∷ []) c.reserve.ensures.items) _ c.self.view_is;
    }

pub push_state-requires-clause-few_states : goal.push_state-requires-clause-few_states
push_state-requires-clause-few_states c = omega (arith, c.self.invariant.states.labelled, c.self.invariant.room, c.self.invariant.states.few)

pub push_state-requires-clause-few_places : goal.push_state-requires-clause-few_places
push_state-requires-clause-few_places c =
    omega (
      arith,
      ap length c.deref.ensures.value,
      c.self.invariant.states.labelled,
      c.self.invariant.states.label_total,
      c.self.invariant.room,
      c.self.invariant.states.few,
      c.self.invariant.head.few_places,
      c.self.invariant.head.few_calls,
    )

pub invariant_of-self : goal.invariant_of-self
invariant_of-self c = is_with_room c.self.inside c.reserve.new.self c.self.invariant c.reserve.ensures.items

pub returns-then-is_err : goal.returns-then-is_err
returns-then-is_err c = record { follows = inl refl }

pub invariant_of-self-then-is_err-2 : goal.invariant_of-self-then-is_err-2
invariant_of-self-then-is_err-2 c =
    let u = at_err c.push_state.result c.if-is_err-2.ensures.negation c.push_state.ensures.unchanged in
    subst (λ (x : Labelling). IsDraft (record c.self.inside { starts = c.reserve.new.self; labels = x })) (sym u)
    (is_with_room c.self.inside c.reserve.new.self c.self.invariant c.reserve.ensures.items)

pub invariant_of-self-then-is_err-3 : goal.invariant_of-self-then-is_err-3
invariant_of-self-then-is_err-3 c =
    let room = at_ok c.reserve.result c.if-is_err.ensures.negation c.reserve.ensures.ok in
    let full = at_err c.push.result c.if-is_err-3.ensures.negation c.push.ensures.full in
    absurd (omega (arith, room, full))
