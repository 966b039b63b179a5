-- A written sum is the sum, where none of its terms is past width.
use Rattle.std.proofs.Common.{◌≡◌, List, [], ◌∷◌, Some, refl, ap, ◌∙◌, pos}
use Rattle.std.specs.Option.{option_and_then}
use Rattle.mdp_math.specs.{Rational.{ℚ, ◌+ℚ◌, ◌*ℚ◌}, Written.{written_add, written_mul}}
use Rattle.mdp_math.proofs.{Options.{step_told}, Written.{written_mul-some, written_add-some}, Ring.{◌⊕◌, lit, ring}, Laws.{rat_ring, +ℚ_assoc}}
use Rattle.mdp_spec.specs.{Mdp.{Entry, value_at}, Row.{row_sum}, Written.{written_sum}}

pub written_sum-some : (z : List ℚ) (acc : ℚ) (row : List Entry) (v : ℚ) → Some v ≡ written_sum z acc row → v ≡ acc +ℚ row_sum row z
written_sum-some z acc [] v e =
    let same : v ≡ acc = cc in
    same ∙ ring rat_ring 1 (λ a. a) (λ a. a ⊕ lit (pos 0)) refl acc
written_sum-some z acc (x ∷ row) v e =
    let p = step_told (written_mul x.prob (value_at z x.target)) (λ term. option_and_then (λ sum. written_sum z sum row) (written_add acc term)) v e in
    let q = step_told (written_add acc p.0) (λ sum. written_sum z sum row) v p.2 in
    let product = written_mul-some x.prob (value_at z x.target) p.0 p.1 in
    let sum = written_add-some acc p.0 q.0 q.1 in
    written_sum-some z q.0 row v q.2
    ∙ ap (λ (s : ℚ). s +ℚ row_sum row z) (sum ∙ ap (λ (t : ℚ). acc +ℚ t) product)
    ∙ +ℚ_assoc acc (x.prob *ℚ value_at z x.target) (row_sum row z)
