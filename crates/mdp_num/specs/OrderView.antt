-- The order of fractions is total, and equal fractions are those that it doesn't tell apart.
use Rattle.std.proofs.Common.{◌≡◌, refl, sym, ap, ap₂, subst, Bool, true, false, ◌&&◌, eqb, Ordering, Less, Equal, Greater}
use Rattle.std.proofs.lemmas.Bool.Decides.{Decides-int_eq, Decides-eqb}
use mathlib.Core.Bool.{true≢false}
use Rattle.std.specs.{Bool.{Decides, one_answer}, Ordering.{MatchOrdering, is_eq, int_eq, as_partial_cmp}, Cmp.{IsTotalOrder, IsPartialOrder, strict, po}}
use Rattle.mdp_math.proofs.{Laws.{same_terms}, Order.{lt_of_cmp, eq_of_cmp, gt_of_cmp, <ℚ_irrefl, <ℚ_trans}}
use Rattle.mdp_math.specs.{Rational.{ℚ, ◌<ℚ◌}, Written.{cmp_ℚ}}
use Rattle.mdp_num.specs.Equal.{eq_ℚ}

both : (a b : Bool) → (a && b) ≡ true → (a ≡ true) × (b ≡ true)
both true b e = (refl, e)
both false b e = absurd (true≢false (sym e))

pub equal_decides : (x y : ℚ) → Decides (eq_ℚ x y) (x ≡ y)
equal_decides x y = (
  λ e. (let p = both (int_eq x.num y.num) (eqb x.den y.den) e in same_terms x y ((Decides-int_eq x.num y.num).0 p.0) ((Decides-eqb x.den y.den).0 p.1)),
  λ e. ap₂ (λ (a b : Bool). a && b) ((Decides-int_eq x.num y.num).1 (ap (λ (z : ℚ). z.num) e)) ((Decides-eqb x.den y.den).1 (ap (λ (z : ℚ). z.den) e)),
)

ranks_by : (x y : ℚ) (r : Ordering) → cmp_ℚ x y ≡ r → MatchOrdering r (x <ℚ y) (x ≡ y) (y <ℚ x)
ranks_by x y Less e = lt_of_cmp x y e
ranks_by x y Equal e = eq_of_cmp x y e
ranks_by x y Greater e = gt_of_cmp x y e

ranks : (x y : ℚ) → MatchOrdering (cmp_ℚ x y) (x <ℚ y) (x ≡ y) (y <ℚ x)
ranks x y = ranks_by x y (cmp_ℚ x y) refl

pub cmp_ℚ-total : IsTotalOrder cmp_ℚ
cmp_ℚ-total = strict (λ (x y : ℚ). x <ℚ y) <ℚ_irrefl <ℚ_trans cmp_ℚ ranks

decides_by : (x y : ℚ) (r : Ordering) → MatchOrdering r (x <ℚ y) (x ≡ y) (y <ℚ x) → Decides (is_eq r) (x ≡ y)
decides_by x y Less h = (λ e. absurd (true≢false (sym e)), λ e. absurd (<ℚ_irrefl y (subst (λ (z : ℚ). z <ℚ y) e h)))
decides_by x y Equal h = (λ e. h, λ e. refl)
decides_by x y Greater h = (λ e. absurd (true≢false (sym e)), λ e. absurd (<ℚ_irrefl y (subst (λ (z : ℚ). y <ℚ z) e h)))

pub cmp_ℚ-ties : (x y : ℚ) → eq_ℚ x y ≡ is_eq (cmp_ℚ x y)
cmp_ℚ-ties x y = one_answer (eq_ℚ x y) (is_eq (cmp_ℚ x y)) (equal_decides x y) (decides_by x y (cmp_ℚ x y) (ranks x y))

pub cmp_ℚ-partial : IsPartialOrder eq_ℚ (as_partial_cmp cmp_ℚ)
cmp_ℚ-partial = po cmp_ℚ-total cmp_ℚ-ties
