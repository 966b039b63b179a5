use Rattle.std.proofs.Common.{◌≡◌, sym, ap, ◌∙◌, arith, get_or}
use Rattle.mdp_rows.specs.Draft.{with_place}
use Rattle.mdp_rows.proofs.Assembled.Places.{place_in, put, with_present, with_absent, place-le}
use Rattle.mdp_rows.proofs.assembly.add_place.Goals.{else-place-len-via-then-place-len+else-index-label, else-place-len-via-else-place-len}
use Rattle.mdp_rows.proofs.assembly.add_place.Goals as goal

pub returns-then-index-label-clause-added : goal.returns-then-index-label-clause-added
returns-then-index-label-clause-added c =
    let p = rw c.deref.ensures.value at c.place_of_label-place.ensures in
    let h = c.if-place-len.true in
    sym (with_present c.args.label c.args.places.now.items c.index.result.now (omega (arith, p, c.len.ensures, h))
    (ap (λ i. get_or c.args.places.now.items i c.index.result.now) (sym p) ∙ sym c.index.ensures ∙ c.if-index-label.true))

pub insert-requires : goal.insert-requires
insert-requires c =
    let p = rw c.deref.ensures.value at c.place_of_label-place.ensures in
    let k = place-le c.args.label c.args.places.now.items in
    omega (arith, p, k)

pub returns-clause-added : goal.returns-clause-added
returns-clause-added c =
    let p = rw c.deref.ensures.value at c.place_of_label-place.ensures in
    let a : with_place c.args.label c.args.places.now.items ≡ put (place_in c.args.label c.args.places.now.items) c.args.label c.args.places.now.items =
    elim c.else-place-len.branch [
      | else-place-len-via-then-place-len+else-index-label w ↦ with_absent c.args.label c.args.places.now.items w.index.result.now
          (λ h s. w.if-index-label.false (w.index.ensures ∙ ap (λ i. get_or c.args.places.now.items i w.index.result.now) p ∙ s))
      | else-place-len-via-else-place-len w ↦ with_absent c.args.label c.args.places.now.items 0 (λ h s. absurd (omega (arith, p, c.len.ensures, w.if-place-len.false)))
    ] in
    (c.in_ok-insert.ensures {u = tt}).items ∙ ap (λ i. put i c.args.label c.args.places.now.items) p ∙ sym a
