-- What the rounded sum of a choice says of its exact sum, in units.
use Rattle.std.proofs.Common.{◌≡◌, ◌∙◌, ℕ, Bool, true, false, if◌then◌else◌, List, [], ◌∷◌, Option, Some, None, unwrap_or, refl, sym, ap, subst, arith}
use Rattle.std.proofs.{Common.{ℤ, pos, ◌+ℤ◌, ◌*ℤ◌, int_lt, slice_index_or}, lemmas.Int.{ints}}
use Rattle.mdp_math.specs.{Rational.{ℚ, of_int, ◌+ℚ◌, ◌*ℚ◌}, Sum.{EachAt}, Written.{narrow, ◌>>=◌}}
use Rattle.mdp_math.proofs.{Laws.{of_int-+ℤ, of_int-*ℤ, rat_ring, den-pos}, Options.{Some_same, step_told}, Order.{≤ℚ_refl, of_int-le, add-le-add_ℚ}}
use Rattle.mdp_math.proofs.{Ring.{◌⊕◌, ◌⊗◌, lit, ring}, SumsAt.{sum_at-sum_of}, Written.{narrow-some}}
use Rattle.mdp_spec.specs.{Mdp.{Entry}, Row.{IsRow}}
use Rattle.mdp_spec.proofs.Rows.{row_weigh, row_weigh-const}
use Rattle.mdp_rows.specs.{declared.dir.Dir.{Dir}, declared.dir.Dir.TheVariants.{Max, Min}}
use Rattle.mdp_horizon.proofs.Directions.{NoBetter, no_better_of_eq, no_better_trans, row_sum-no_better}
use Rattle.mdp_horizon.proofs.{Making.{AllDivide, weight-is, num-is, IsScale, scale_in-is}, Rounding.{IsClose, rounded-beyond, rounded-close}}
use Rattle.mdp_horizon.specs.{declared.choice.Scale.{Scale}, declared.choice.Term.{Term}, Whole.{whole_at, rounded, farther}}
use Rattle.mdp_horizon.specs.Scaled.{no_scale, scale_in, scale_of, term_of, terms_of, rounded_start, scaled, total_with, total_of}
use Rattle.mdp_horizon.specs.Scaled.{divided, farthest_with, farthest_from, farthest, start_to, trivial, or_else, rounded_sum, no_term}

-- the value of state t as a number, 0 where it's missing
abbrev pub number_at : List (Option ℤ) → ℕ → ℚ
number_at column t = of_int (unwrap_or (whole_at column t) (pos 0))

-- what the numbers weigh in a row
abbrev pub weighed : List (Option ℤ) → List Entry → ℚ
weighed column row = row_weigh (number_at column) row

-- the values of all targets are there
abbrev pub AreThere : List (Option ℤ) → List Entry → Type 0
AreThere column [] = Unit {0}
AreThere column (x ∷ row) = ((k : ℤ) × (whole_at column x.target ≡ Some k)) × AreThere column row

-- what a choice earns at once and then by the numbers, in units
abbrev pub exact : ℕ → ℚ → List Entry → List (Option ℤ) → ℚ
exact one start row column = of_int (pos one) *ℚ start +ℚ weighed column row

-- ---- the total

more_total : (acc s p w v n c prob rest : ℚ) → s ≡ acc +ℚ p → p ≡ w *ℚ v → w ≡ c *ℚ prob → n ≡ s +ℚ c *ℚ rest → n ≡ acc +ℚ c *ℚ (prob *ℚ v +ℚ rest)
more_total acc s p w v n c prob rest e f g h =
    h ∙ ap (λ (x : ℚ). x +ℚ c *ℚ rest) (e ∙ ap (λ (x : ℚ). acc +ℚ x) (f ∙ ap (λ (x : ℚ). x *ℚ v) g))
    ∙ ring rat_ring 5 (λ a c p v r. (a ⊕ (c ⊗ p) ⊗ v) ⊕ c ⊗ r) (λ a c p v r. a ⊕ c ⊗ (p ⊗ v ⊕ r)) refl acc c prob v rest

record IsTotal (column : List (Option ℤ)) (row : List Entry) (common : ℕ) (acc n : ℤ) : Type 0 where
  there : AreThere column row
  is : of_int n ≡ of_int acc +ℚ of_int (pos common) *ℚ weighed column row

total-is : (column : List (Option ℤ)) (row : List Entry) (common : ℕ) (acc n : ℤ) → AllDivide common row
    → total_of column acc (terms_of (pos common) row) ≡ Some n → IsTotal column row common acc n
total-is column [] common acc n all e = record {
  there = tt;
  is = ap of_int (sym (Some_same _ _ e)) ∙ ring rat_ring 2 (λ a c. a) (λ a c. a ⊕ c ⊗ lit (pos 0)) refl (of_int acc) (of_int (pos common));
}
total-is column (x ∷ row) common acc n all e =
    let w : ℤ = Term.weight (term_of (pos common) x) in
    let c = step_told (total_with column acc (term_of (pos common) x)) (λ s. total_of column s (terms_of (pos common) row)) n (sym e) in
    let a = step_told (whole_at column x.target) (λ v. narrow (w *ℤ v) >>= (λ p. narrow (acc +ℤ p))) c.0 c.1 in
    let b = step_told (narrow (w *ℤ a.0)) (λ p. narrow (acc +ℤ p)) c.0 a.2 in
    let rest : IsTotal column row common c.0 n = total-is column row common c.0 n all.1 (sym c.2) in
    record {
      there = ((a.0, sym a.1), rest.there);
      is =
          more_total (of_int acc) (of_int c.0) (of_int b.0) (of_int w) (number_at column x.target) (of_int n) (of_int (pos common)) x.prob (weighed column row)
          (ap of_int (narrow-some _ c.0 b.2).0 ∙ of_int-+ℤ acc b.0)
          (ap of_int (narrow-some _ b.0 b.1).0 ∙ of_int-*ℤ w a.0 ∙ ap (λ (o : Option ℤ). of_int w *ℚ of_int (unwrap_or o (pos 0))) a.1)
          (weight-is x.prob common all.0) rest.is;
    }

-- ---- the sum that is divided

-- k is the exact sum, rounded to the side
pub record IsRounded (side : Dir) (one : ℕ) (start : ℚ) (row : List Entry) (column : List (Option ℤ)) (k : ℤ) : Type 0 where
  pub there : AreThere column row
  pub beyond : NoBetter side (exact one start row column) (of_int k)
  pub close : IsClose side (exact one start row column) (of_int k)

then_only : {A : Type 0} (b : Bool) (x : Option A) (k : A) → (if b then x else None) ≡ Some k → x ≡ Some k
then_only true x k e = e
then_only false x k e = cc

-- the sum by a scale
abbrev by_scale : Dir → List Entry → List (Option ℤ) → Scale → Option ℤ
by_scale side row column sc = if int_lt (pos 0) sc.common then (total_of column sc.start (terms_of sc.common row) >>= (λ n. Some (rounded side n sc.common))) else None

scaled_total : (one : ℕ) (start : ℚ) (row : List Entry) (column : List (Option ℤ)) (sc : Scale) (s : IsScale one start row sc) (n : ℤ) → IsTotal column row s.common sc.start n
    → of_int n ≡ of_int (pos s.common) *ℚ exact one start row column
scaled_total one start row column sc s n t =
    t.is ∙ ap (λ (x : ℚ). x +ℚ of_int (pos s.common) *ℚ weighed column row) s.begins
    ∙ ring rat_ring 3 (λ c b w. c ⊗ b ⊕ c ⊗ w) (λ c b w. c ⊗ (b ⊕ w)) refl (of_int (pos s.common)) (of_int (pos one) *ℚ start) (weighed column row)

module _ (side : Dir) (one : ℕ) (start : ℚ) (row : List Entry) (column : List (Option ℤ)) (k : ℤ) where
  by_scale-is : (o : Option Scale) → scale_in (pos one) start row ≡ o → by_scale side row column (unwrap_or o no_scale) ≡ Some k → IsRounded side one start row column k
  by_scale-is None e h = cc
  by_scale-is (Some sc) e h =
      let s : IsScale one start row sc = scale_in-is one start row sc e in
      let a = step_told (total_of column sc.start (terms_of sc.common row)) (λ n. let o : Option ℤ = Some (rounded side n sc.common) in o) k
      (sym (then_only (int_lt (pos 0) sc.common) (total_of column sc.start (terms_of sc.common row) >>= (λ n. Some (rounded side n sc.common))) k h)) in
      let t : IsTotal column row s.common sc.start a.0 = total-is column row s.common sc.start a.0 s.all (ap (λ (c : ℤ). total_of column sc.start (terms_of c row)) (sym s.is) ∙ sym a.1) in
      let same : rounded side a.0 (pos s.common) ≡ k = ap (rounded side a.0) (sym s.is) ∙ sym (Some_same _ _ a.2) in
      let is : of_int a.0 ≡ of_int (pos s.common) *ℚ exact one start row column = scaled_total one start row column sc s a.0 t in
      record {
        there = t.there;
        beyond = subst (λ (j : ℤ). NoBetter side (exact one start row column) (of_int j)) same (rounded-beyond side a.0 s.common (exact one start row column) s.above is);
        close = subst (λ (j : ℤ). IsClose side (exact one start row column) (of_int j)) same (rounded-close side a.0 s.common (exact one start row column) s.above is);
      }

  pub divided-is : divided side column (scaled (pos one) start row) ≡ Some k → IsRounded side one start row column k
  divided-is h = by_scale-is (scale_in (pos one) start row) refl h

-- ---- the trivial value

no_better_add : (side : Dir) (a b c d : ℚ) → NoBetter side a b → NoBetter side c d → NoBetter side (a +ℚ c) (b +ℚ d)
no_better_add Max a b c d p q = add-le-add_ℚ a b c d p q
no_better_add Min a b c d p q = add-le-add_ℚ b a d c p q

farther_by : (side : Dir) (x y : ℤ) (b : Bool) → int_lt x y ≡ b → NoBetter Max (of_int x) (of_int (if b then y else x)) × NoBetter Max (of_int y) (of_int (if b then y else x))
farther_by side x y true e = (of_int-le x y (grind (arith, ints)), ≤ℚ_refl (of_int y))
farther_by side x y false e = (≤ℚ_refl (of_int x), of_int-le y x (grind (arith, ints)))

nearer_by : (side : Dir) (x y : ℤ) (b : Bool) → int_lt y x ≡ b → NoBetter Min (of_int x) (of_int (if b then y else x)) × NoBetter Min (of_int y) (of_int (if b then y else x))
nearer_by side x y true e = (of_int-le y x (grind (arith, ints)), ≤ℚ_refl (of_int y))
nearer_by side x y false e = (≤ℚ_refl (of_int x), of_int-le x y (grind (arith, ints)))

pub farther-both : (side : Dir) (x y : ℤ) → NoBetter side (of_int x) (of_int (farther side x y)) × NoBetter side (of_int y) (of_int (farther side x y))
farther-both Max x y = farther_by Max x y (int_lt x y) refl
farther-both Min x y = nearer_by Min x y (int_lt y x) refl

-- the values of all targets are there, and none lies beyond
abbrev AreWithin : Dir → List (Option ℤ) → List Entry → ℤ → Type 0
AreWithin side column [] far = Unit {0}
AreWithin side column (x ∷ row) far = (NoBetter side (number_at column x.target) (of_int far)) × AreWithin side column row far

record IsFarthest (side : Dir) (column : List (Option ℤ)) (row : List Entry) (first far : ℤ) : Type 0 where
  there : AreThere column row
  within : AreWithin side column row far
  from : NoBetter side (of_int first) (of_int far)

farthest_from-is : (side : Dir) (column : List (Option ℤ)) (common : ℤ) (row : List Entry) (first far : ℤ) → farthest_from side column first (terms_of common row) ≡ Some far
    → IsFarthest side column row first far
farthest_from-is side column common [] first far e = record { there = tt; within = tt; from = no_better_of_eq side _ _ (ap of_int (Some_same _ _ e)) }
farthest_from-is side column common (x ∷ row) first far e =
    let z = step_told (farthest_with side column first (term_of common x)) (λ k. farthest_from side column k (terms_of common row)) far (sym e) in
    let a = step_told (whole_at column x.target) (λ k. let o : Option ℤ = Some (farther side first k) in o) z.0 z.1 in
    let rest : IsFarthest side column row (farther side first a.0) far =
    farthest_from-is side column common row (farther side first a.0) far (ap (λ (k : ℤ). farthest_from side column k (terms_of common row)) (sym (Some_same _ _ a.2)) ∙ sym z.2) in
    let both = farther-both side first a.0 in
    record {
      there = ((a.0, sym a.1), rest.there);
      within = (
        subst (λ (o : Option ℤ). NoBetter side (of_int (unwrap_or o (pos 0))) (of_int far)) a.1
            (no_better_trans side (of_int a.0) (of_int (farther side first a.0)) (of_int far) both.1 rest.from),
        rest.within,
      );
      from = no_better_trans side (of_int first) (of_int (farther side first a.0)) (of_int far) both.0 rest.from;
    }

within_at : (side : Dir) (column : List (Option ℤ)) (row : List Entry) (far : ℤ) → AreWithin side column row far → EachAt row (λ e y. NoBetter side (number_at column y.target) (of_int far))
within_at side column [] far h = tt
within_at side column (x ∷ row) far h = (h.0, within_at side column row far h.1)

-- so their average isn't beyond either
weighed-within : (side : Dir) (n : ℕ) (column : List (Option ℤ)) (row : List Entry) (far : ℤ) → IsRow n row → AreWithin side column row far → NoBetter side (weighed column row) (of_int far)
weighed-within side n column row far known_ h =
    subst (λ (x : ℚ). NoBetter side (weighed column row) x) (row_weigh-const n row (of_int far) known_)
    (subst (λ (x : ℚ). NoBetter side x (row_weigh (λ v. of_int far) row)) (sum_at-sum_of row (λ y. y.prob *ℚ number_at column y.target))
    (row_sum-no_better side n row (λ e y. number_at column y.target) (λ v. of_int far) known_ (within_at side column row far h)))

rounded_start-is : (side : Dir) (one : ℕ) (start : ℚ) (k : ℤ) → rounded_start side (pos one) start ≡ Some k → NoBetter side (of_int (pos one) *ℚ start) (of_int k)
rounded_start-is side one start k e =
    let a = step_told (narrow (start.num *ℤ pos one)) (λ n. let o : Option ℤ = Some (rounded side n (pos start.den)) in o) k (sym e) in
    subst (λ (j : ℤ). NoBetter side (of_int (pos one) *ℚ start) (of_int j)) (sym (Some_same _ _ a.2))
    (rounded-beyond side a.0 start.den (of_int (pos one) *ℚ start) (den-pos start)
    (ap of_int (narrow-some _ a.0 a.1).0 ∙ of_int-*ℤ start.num (pos one) ∙ ap (λ (x : ℚ). x *ℚ of_int (pos one)) (num-is start)
    ∙ ring rat_ring 3 (λ d s o. (d ⊗ s) ⊗ o) (λ d s o. d ⊗ (o ⊗ s)) refl (of_int (pos start.den)) start (of_int (pos one))))

pub start_to-is : (side : Dir) (one : ℕ) (start : ℚ) (row : List Entry) → start_to side (scaled (pos one) start row) ≡ rounded_start side (pos one) start
start_to-is Max one start row = refl
start_to-is Min one start row = refl

pub record IsTrivial (side : Dir) (one : ℕ) (start : ℚ) (row : List Entry) (column : List (Option ℤ)) (k : ℤ) : Type 0 where
  pub there : AreThere column row
  pub beyond : NoBetter side (exact one start row column) (of_int k)

pub trivial-is : (side : Dir) (n one : ℕ) (start : ℚ) (row : List Entry) (column : List (Option ℤ)) (k : ℤ) → IsRow n row → trivial side column (scaled (pos one) start row) ≡ Some k
    → IsTrivial side one start row column k
trivial-is side n one start row column k known_ e =
    let common : ℤ = Scale.common (scale_of (pos one) start row) in
    let terms : List Term = terms_of common row in
    let a = step_told (start_to side (scaled (pos one) start row)) (λ s. farthest side column terms >>= (λ f. narrow (s +ℤ f))) k (sym e) in
    let b = step_told (farthest side column terms) (λ f. narrow (a.0 +ℤ f)) k a.2 in
    let c = step_told (whole_at column (slice_index_or terms 0 no_term).target) (λ f. farthest_from side column f terms) b.0 b.1 in
    let f : IsFarthest side column row c.0 b.0 = farthest_from-is side column common row c.0 b.0 (sym c.2) in
    let s : NoBetter side (of_int (pos one) *ℚ start) (of_int a.0) = rounded_start-is side one start a.0 (sym (a.1 ∙ start_to-is side one start row)) in
    record {
      there = f.there;
      beyond =
          subst (λ (x : ℚ). NoBetter side (exact one start row column) x) (sym (ap of_int (narrow-some _ k b.2).0 ∙ of_int-+ℤ a.0 b.0))
          (no_better_add side (of_int (pos one) *ℚ start) (of_int a.0) (weighed column row) (of_int b.0) s (weighed-within side n column row b.0 known_ f.within));
    }

-- ---- both

or_else_by : {P : Type 0} (o p : Option ℤ) (k : ℤ) → or_else o p ≡ Some k → (o ≡ Some k → P) → (p ≡ Some k → P) → P
or_else_by None p k e f g = g e
or_else_by (Some j) p k e f g = f e

pub rounded_sum-is : (side : Dir) (n one : ℕ) (start : ℚ) (row : List Entry) (column : List (Option ℤ)) (k : ℤ) → IsRow n row → rounded_sum side column (scaled (pos one) start row) ≡ Some k
    → IsTrivial side one start row column k
unfolding rounded_sum
rounded_sum-is side n one start row column k known_ e =
    or_else_by (divided side column (scaled (pos one) start row)) (trivial side column (scaled (pos one) start row)) k e
    (λ h. let d = divided-is side one start row column k h in record { there = d.there; beyond = d.beyond })
    (trivial-is side n one start row column k known_)
