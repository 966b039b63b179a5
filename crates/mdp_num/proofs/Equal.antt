-- Equality of fractions, as the code tests it.
use Rattle.std.proofs.{Common.{◌≡◌, eqb, sym, ap, ◌∙◌, pos, unsigned_abs, to_z, of_z}, lemmas.Bool.Decides.{Decides-eqb}}
use Rattle.std.specs.Bool.{Decides}
use mir.Syntax.{w128}
use Rattle.mdp_math.specs.Rational.{ℚ}
use Rattle.mdp_math.proofs.Laws.{same_terms}
use Rattle.mdp_num.specs.{declared.frac.Frac.TheInside.{Inside}, Inside.{value_of, IsFrac}}
use Rattle.mdp_num.proofs.Values.{num-bits, den-bits, num-value, pos-den-value}

module _ (f g : Inside) (x y : ℚ) (vf : value_of f ≡ x) (i : IsFrac f) (vg : value_of g ≡ y) (j : IsFrac g) where
  -- where the numerators' bits are the same, the denominators' bits decide
  pub same_num-decides : of_z w128 f.num ≡ of_z w128 g.num → Decides (eqb (of_z w128 f.den) (of_z w128 g.den)) (x ≡ y)
  same_num-decides e = (
    λ t.
        (let d : of_z w128 f.den ≡ of_z w128 g.den = (Decides-eqb _ _).0 t in
        same_terms x y (sym (num-bits f x vf i) ∙ ap (to_z w128) e ∙ num-bits g y vg j) (ap unsigned_abs (sym (den-bits f x vf i) ∙ ap (to_z w128) d ∙ den-bits g y vg j))),
    λ s.
        (let d : f.den ≡ g.den = sym (pos-den-value f i) ∙ ap (λ (z : ℚ). pos z.den) (vf ∙ s ∙ sym vg) ∙ pos-den-value g j in
        (Decides-eqb _ _).1 (ap (of_z w128) d)),
  )

  -- and where they differ, the fractions do
  pub other_num-decides : (of_z w128 f.num ≡ of_z w128 g.num → ⊥) → Decides (eqb (of_z w128 f.num) (of_z w128 g.num)) (x ≡ y)
  other_num-decides n = (
    λ t. absurd (n ((Decides-eqb _ _).0 t)),
    λ s. absurd (n (ap (of_z w128) (sym (num-value f i) ∙ ap (λ (z : ℚ). z.num) (vf ∙ s ∙ sym vg) ∙ num-value g j))),
  )
