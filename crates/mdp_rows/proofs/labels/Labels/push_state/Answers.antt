use Rattle.std.proofs.Common.{ℕ, ◌+◌, ◌<◌, ◌^◌, List, [], ◌∷◌, ◌++◌, length, sum_by, ap, ◌∙◌, refl, arith}
use Rattle.mdp_rows.specs.{FlatLabels.{labels_in}, Labelling.{Labelling}}
use Rattle.mdp_rows.proofs.{Flat.Labels.{states_are}, Flat.LabelsGrown.{same_labels, few_label_places, labels_grown, are_labels_grown}}
use Rattle.mdp_rows.proofs.Flat.RowsGrown.{on_err_of}
use Rattle.mdp_rows.proofs.labels.Labels.push_state.Goals as goal

pub returns-in_err-reserve-clause-unchanged : goal.returns-in_err-reserve-clause-unchanged
returns-in_err-reserve-clause-unchanged c = on_err_of c.from_residual.result (same_labels c.self.inside _ c.self.inside.places c.reserve.ensures.items refl ∙ c.self.view_is)

pub returns-in_err-extend_from_slice-clause-unchanged : goal.returns-in_err-extend_from_slice-clause-unchanged
returns-in_err-extend_from_slice-clause-unchanged c =
    on_err_of c.from_residual-in_err-extend_from_slice.result (same_labels c.self.inside _ _ c.reserve.ensures.items (c.in_err-extend_from_slice.ensures {u = tt}).items ∙ c.self.view_is)

pub overflow_cast-len : goal.overflow_cast-len
overflow_cast-len c =
    let few : sum_by length (Labelling.of_state (labels_in c.self.inside)) + length c.args.places.now < 2 ^ 32 = rw c.self.view_is c.requires.few_places in
    let n = few_label_places c.self.inside c.args.places.now _ c.self.invariant (c.in_ok-extend_from_slice.ensures {u = tt}).items few in
    omega (arith, c.len.ensures)

pub invariant_of-self-2 : goal.invariant_of-self-2
invariant_of-self-2 c =
    let few : sum_by length (Labelling.of_state (labels_in c.self.inside)) + length c.args.places.now < 2 ^ 32 = rw c.self.view_is c.requires.few_places in
    let g = (c.in_ok-extend_from_slice.ensures {u = tt}).items in
    let p = (c.in_ok-push.ensures {u = tt}).items in
    are_labels_grown c.self.inside _ _ c.args.places.now c.len.result c.self.invariant g (omega (arith, c.len.ensures)) (p ∙ ap (λ (xs : List ℕ). xs ++ c.len.result ∷ []) c.reserve.ensures.items)
    (omega (arith, states_are _ _ c.self.view_is, c.requires.few_states)) (few_label_places c.self.inside c.args.places.now _ c.self.invariant g few)

pub returns-clause-appended : goal.returns-clause-appended
returns-clause-appended c =
    let g = (c.in_ok-extend_from_slice.ensures {u = tt}).items in
    let p = (c.in_ok-push.ensures {u = tt}).items in
    labels_grown c.self.inside _ _ c.args.places.now c.len.result c.self.invariant g (omega (arith, c.len.ensures)) (p ∙ ap (λ (xs : List ℕ). xs ++ c.len.result ∷ []) c.reserve.ensures.items)
    ∙ ap (λ (v : Labelling). let x : Labelling = record { names = v.names; of_state = v.of_state ++ c.args.places.now ∷ [] } in x) c.self.view_is
