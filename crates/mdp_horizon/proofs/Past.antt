-- A quotient that doesn't lie beyond the best one changes nothing.
use Rattle.std.proofs.Common.{◌≡◌, ◌∙◌, ℕ, ◌<◌, Bool, true, false, if◌then◌else◌, List, Option, Some, None, refl, sym, ap, subst, arith}
use Rattle.std.proofs.{Common.{ℤ, pos, negsuc, neg_ℤ, ◌+ℤ◌, ◌*ℤ◌, ◌<ℤ◌, ◌≤ℤ◌, int_lt}, lemmas.Int.{ints}}
use Rattle.std.specs.Int.{int_div_euclid}
use Rattle.mdp_math.specs.{Integers.{neg_ℤ-*ℤ}, Rational.{ℚ, of_int, ◌*ℚ◌, ◌≤ℚ◌}, Written.{narrow, ◌>>=◌}}
use Rattle.mdp_math.proofs.{IntegerRing.{int_ring}, Laws.{of_int-*ℤ, rat_ring}, Order.{0ℚ, mul-le-mul_left_ℚ, le_of_mul_left_ℚ, of_int-le, ≤ℚ_of_lt}, Ring.{◌⊕◌, ◌⊗◌, lit, ring}, Whole.{of_nat-pos}}
use Rattle.mdp_math.proofs.Written.{narrow-some}
use Rattle.mdp_rows.specs.{declared.dir.Dir.{Dir}, declared.dir.Dir.TheVariants.{Max, Min}}
use Rattle.mdp_horizon.specs.{declared.leader.Leader.{Leader}, Whole.{rounded, farther, opposite}, Columns.{is_ahead, covered_with, judged}}
use Rattle.mdp_horizon.specs.{Scaled.{Scaled, total_of, divided, trivial, or_else, rounded_sum}, Past.{summed, IsReached, IsBehind}}
use Rattle.mdp_horizon.proofs.{Gap.{whole_le}, Rounding.{floor-le, floor-gt}}

not_below : (x y : ℤ) → int_lt x y ≡ false → y ≤ℤ x
not_below x y e = grind (arith, ints)

below : (x y : ℤ) → int_lt x y ≡ true → (x +ℤ pos 1) ≤ℤ y
below x y e = grind (arith, ints)

at_most : (x y : ℤ) → y ≤ℤ x → int_lt x y ≡ false
at_most x y e = grind (arith, ints)

-- ---- products

module _ (d : ℕ) (h : 0 < d) where
  times_is : (x : ℤ) → of_int (x *ℤ pos d) ≡ of_int (pos d) *ℚ of_int x
  times_is x = of_int-*ℤ x (pos d) ∙ ring rat_ring 2 (λ x d. x ⊗ d) (λ x d. d ⊗ x) refl (of_int x) (of_int (pos d))

  cancel : (q far : ℤ) → (q *ℤ pos d) ≤ℤ (far *ℤ pos d) → q ≤ℤ far
  cancel q far l =
      whole_le q far (le_of_mul_left_ℚ (of_int (pos d)) (of_int q) (of_int far) (of_nat-pos d h)
      (subst (λ (y : ℚ). of_int (pos d) *ℚ of_int q ≤ℚ y) (times_is far) (subst (λ (y : ℚ). y ≤ℚ of_int (far *ℤ pos d)) (times_is q) (of_int-le (q *ℤ pos d) (far *ℤ pos d) l))))

  grow : (q far : ℤ) → q ≤ℤ far → (q *ℤ pos d) ≤ℤ (far *ℤ pos d)
  grow q far l =
      whole_le (q *ℤ pos d) (far *ℤ pos d)
      (subst (λ (y : ℚ). of_int (q *ℤ pos d) ≤ℚ y) (sym (times_is far))
      (subst (λ (y : ℚ). y ≤ℚ of_int (pos d) *ℚ of_int far) (sym (times_is q))
      (mul-le-mul_left_ℚ (of_int (pos d)) (of_int q) (of_int far) (≤ℚ_of_lt 0ℚ (of_int (pos d)) (of_nat-pos d h)) (of_int-le q far l))))

  -- ---- quotients

  floor_most : (n far : ℤ) → n ≤ℤ (far *ℤ pos d) → int_div_euclid n (pos d) ≤ℤ far
  floor_most n far l = cancel (int_div_euclid n (pos d)) far (let f = floor-le n d h in omega (arith, ints, f, l))

  least_by : (t : Bool) (q far n : ℤ) → int_lt q far ≡ t → (far *ℤ pos d) ≤ℤ n → (n +ℤ pos 1) ≤ℤ ((q +ℤ pos 1) *ℤ pos d) → far ≤ℤ q
  least_by false q far n e l g = not_below q far e
  least_by true q far n e l g = let k = grow (q +ℤ pos 1) far (below q far e) in absurd (omega (arith, ints, k, l, g))

  floor_least : (n far : ℤ) → (far *ℤ pos d) ≤ℤ n → far ≤ℤ int_div_euclid n (pos d)
  floor_least n far l = least_by (int_lt (int_div_euclid n (pos d)) far) (int_div_euclid n (pos d)) far n refl l (floor-gt n d h)

  turned_most : (n far : ℤ) → n ≤ℤ (far *ℤ pos d) → (neg_ℤ far *ℤ pos d) ≤ℤ neg_ℤ n
  turned_most n far l = subst (λ (x : ℤ). x ≤ℤ neg_ℤ n) (sym (neg_ℤ-*ℤ far (pos d))) (omega (arith, ints, l))

  turned_least : (n far : ℤ) → (far *ℤ pos d) ≤ℤ n → neg_ℤ n ≤ℤ (neg_ℤ far *ℤ pos d)
  turned_least n far l = subst (λ (x : ℤ). neg_ℤ n ≤ℤ x) (sym (neg_ℤ-*ℤ far (pos d))) (omega (arith, ints, l))

  most : (side : Dir) (n far : ℤ) → n ≤ℤ (far *ℤ pos d) → rounded side n (pos d) ≤ℤ far
  most Max n far l = let k = floor_least (neg_ℤ n) (neg_ℤ far) (turned_most n far l) in omega (arith, ints, k)
  most Min n far l = floor_most n far l

  least : (side : Dir) (n far : ℤ) → (far *ℤ pos d) ≤ℤ n → far ≤ℤ rounded side n (pos d)
  least Max n far l = let k = floor_most (neg_ℤ n) (neg_ℤ far) (turned_least n far l) in omega (arith, ints, k)
  least Min n far l = floor_least n far l

  -- it isn't ahead, on whichever side it is rounded
  behind : (dir side : Dir) (far n : ℤ) → IsReached dir far n (pos d) → is_ahead dir (Some (rounded side n (pos d))) (Some far) ≡ false
  behind Max side far n l = at_most far (rounded side n (pos d)) (most side n far l)
  behind Min side far n l = at_most (rounded side n (pos d)) far (least side n far l)

  farther_by : (dir : Dir) (far n : ℤ) → IsReached dir far n (pos d) → farther dir far (rounded dir n (pos d)) ≡ far
  farther_by Max far n l = ap (λ (b : Bool). if b then rounded Max n (pos d) else far) (behind Max Max far n l)
  farther_by Min far n l = ap (λ (b : Bool). if b then rounded Min n (pos d) else far) (behind Min Min far n l)

pub farther_kept : (dir : Dir) (far n d : ℤ) → pos 0 <ℤ d → IsReached dir far n d → farther dir far (rounded dir n d) ≡ far
farther_kept dir far n (pos d) h l = farther_by d (omega (arith, ints, h)) dir far n l
farther_kept dir far n (negsuc d) h l = absurd (omega (arith, ints, h))

ahead_of : (dir : Dir) (far n d : ℤ) → pos 0 <ℤ d → IsReached dir far n d → is_ahead dir (Some (rounded (opposite dir) n d)) (Some far) ≡ false
ahead_of dir far n (pos d) h l = behind d (omega (arith, ints, h)) dir (opposite dir) far n l
ahead_of dir far n (negsuc d) h l = absurd (omega (arith, ints, h))

pub judged_kept : (dir : Dir) (c : ℕ) (leader : Leader) (far n d : ℤ) → leader.value ≡ Some far → pos 0 <ℤ d → IsReached dir far n d
    → judged dir c leader (Some (rounded (opposite dir) n d)) ≡ leader
judged_kept dir c leader far n d e h l =
    let new : Leader = record { value = Some (rounded (opposite dir) n d); choice = c } in
    ap (λ (o : Option ℤ). if is_ahead dir (Some (rounded (opposite dir) n d)) o then new else leader) e
    ∙ ap (λ (b : Bool). if b then new else leader) (ahead_of dir far n d h l)

-- rounded the other way, it isn't ahead of far unless it lies a whole d beyond
behind_by : (t : Bool) (d : ℕ) (q far n : ℤ) → 0 < d → int_lt far q ≡ t → (q *ℤ pos d) ≤ℤ n → n <ℤ (far *ℤ pos d +ℤ pos d) → q ≤ℤ far
behind_by false d q far n h e f l = not_below far q e
behind_by true d q far n h e f l =
    let k = grow d h (far +ℤ pos 1) q (below far q e) in
    let s : (far +ℤ pos 1) *ℤ pos d ≡ far *ℤ pos d +ℤ pos d = ring int_ring 2 (λ x d. (x ⊕ lit (pos 1)) ⊗ d) (λ x d. x ⊗ d ⊕ d) refl far (pos d) in
    absurd (omega (arith, ints, k, s, f, l))

floor_behind : (d : ℕ) (n far : ℤ) → 0 < d → n <ℤ (far *ℤ pos d +ℤ pos d) → int_div_euclid n (pos d) ≤ℤ far
floor_behind d n far h l = behind_by (int_lt far (int_div_euclid n (pos d))) d (int_div_euclid n (pos d)) far n h refl (floor-le n d h) l

turned_behind : (d : ℕ) (n far : ℤ) → (far *ℤ pos d) <ℤ (n +ℤ pos d) → neg_ℤ n <ℤ (neg_ℤ far *ℤ pos d +ℤ pos d)
turned_behind d n far l = subst (λ (x : ℤ). neg_ℤ n <ℤ (x +ℤ pos d)) (sym (neg_ℤ-*ℤ far (pos d))) (omega (arith, ints, l))

other_behind : (dir : Dir) (far n d : ℤ) → pos 0 <ℤ d → IsBehind dir far n d → is_ahead dir (Some (rounded (opposite dir) n d)) (Some far) ≡ false
other_behind Max far n (pos d) h l = at_most far (rounded Min n (pos d)) (floor_behind d n far (omega (arith, ints, h)) l)
other_behind Min far n (pos d) h l =
    at_most (rounded Max n (pos d)) far (let k = floor_behind d (neg_ℤ n) (neg_ℤ far) (omega (arith, ints, h)) (turned_behind d n far l) in omega (arith, ints, k))
other_behind dir far n (negsuc d) h l = absurd (omega (arith, ints, h))

-- ---- the test

pub reached_by : (dir : Dir) (far n d limit : ℤ) → limit ≡ far *ℤ d → is_ahead dir (Some n) (Some limit) ≡ false → IsReached dir far n d
reached_by Max far n d limit e h = subst (λ (z : ℤ). n ≤ℤ z) e (not_below limit n h)
reached_by Min far n d limit e h = subst (λ (z : ℤ). z ≤ℤ n) e (not_below n limit h)

pub reached : (dir : Dir) (far n d limit : ℤ) → Some limit ≡ narrow (far *ℤ d) → is_ahead dir (Some n) (Some limit) ≡ false → IsReached dir far n d
reached dir far n d limit e h = reached_by dir far n d limit ((narrow-some (far *ℤ d) limit e).0) h

-- ---- a sum and its quotient

branched : (b : Bool) (o : Option ℤ) (f : ℤ → Option ℤ) → (if b then (o >>= f) else None) ≡ ((if b then o else None) >>= f)
branched true o f = refl
branched false o f = refl

pub divided_by : (side : Dir) (column : List (Option ℤ)) (x : Scaled) → divided side column x ≡ (summed column x >>= (λ n. Some (rounded side n x.scale.common)))
divided_by side column x = branched (int_lt (pos 0) x.scale.common) (total_of column x.scale.start x.terms) (λ n. Some (rounded side n x.scale.common))

pub sum_divided : (side : Dir) (column : List (Option ℤ)) (x : Scaled) (n : ℤ) → Some n ≡ summed column x → rounded_sum side column x ≡ Some (rounded side n x.scale.common)
unfolding rounded_sum
sum_divided side column x n e =
    ap (λ (o : Option ℤ). or_else o (trivial side column x)) (divided_by side column x ∙ ap (λ (o : Option ℤ). o >>= (λ n. Some (rounded side n x.scale.common))) (sym e))

pub sum_trivial : (side : Dir) (column : List (Option ℤ)) (x : Scaled) → None ≡ summed column x → rounded_sum side column x ≡ trivial side column x
unfolding rounded_sum
sum_trivial side column x e =
    ap (λ (o : Option ℤ). or_else o (trivial side column x)) (divided_by side column x ∙ ap (λ (o : Option ℤ). o >>= (λ n. Some (rounded side n x.scale.common))) (sym e))

-- ---- a choice of which the sum before it is divided is known

module _ (dir : Dir) (column : List (Option ℤ)) (x : Scaled) (sum : ℤ) (is : Some sum ≡ summed column x) where
  -- it covers no more
  pub covered_kept : (far : ℤ) → pos 0 <ℤ x.scale.common → IsReached dir far sum x.scale.common → covered_with dir column far x ≡ Some far
  covered_kept far h l =
      ap (λ (o : Option ℤ). o >>= (λ k. Some (farther dir far k))) (sum_divided dir column x sum is)
      ∙ ap (λ (z : ℤ). let o : Option ℤ = Some z in o) (farther_kept dir far sum x.scale.common h l)

  -- or what its quotient does
  pub covered_to : (far q : ℤ) → q ≡ rounded dir sum x.scale.common → covered_with dir column far x ≡ Some (farther dir far q)
  covered_to far q e =
      ap (λ (o : Option ℤ). o >>= (λ k. Some (farther dir far k))) (sum_divided dir column x sum is) ∙ ap (λ (z : ℤ). let o : Option ℤ = Some (farther dir far z) in o) (sym e)

  -- it leaves the leader as it is
  pub led_on : (c : ℕ) (leader : Leader) (far : ℤ) → leader.value ≡ Some far → pos 0 <ℤ x.scale.common → IsBehind dir far sum x.scale.common
      → judged dir c leader (rounded_sum (opposite dir) column x) ≡ leader
  led_on c leader far e h l =
      let new : Leader = record { value = Some (rounded (opposite dir) sum x.scale.common); choice = c } in
      ap (judged dir c leader) (sum_divided (opposite dir) column x sum is)
      ∙ ap (λ (o : Option ℤ). if is_ahead dir (Some (rounded (opposite dir) sum x.scale.common)) o then new else leader) e
      ∙ ap (λ (b : Bool). if b then new else leader) (other_behind dir far sum x.scale.common h l)

  -- or is judged by its quotient
  pub led_by : (c : ℕ) (leader : Leader) (q : ℤ) (b : Bool) → q ≡ rounded (opposite dir) sum x.scale.common → is_ahead dir (Some q) leader.value ≡ b
      → judged dir c leader (rounded_sum (opposite dir) column x) ≡ (let new : Leader = record { value = Some q; choice = c } in if b then new else leader)
  led_by c leader q b e h =
      let new : Leader = record { value = Some q; choice = c } in
      ap (judged dir c leader) (sum_divided (opposite dir) column x sum is)
      ∙ ap (λ (z : ℤ). judged dir c leader (Some z)) (sym e)
      ∙ ap (λ (b : Bool). if b then new else leader) h

-- ---- numbers as the code passes them

pub behind_same : (dir : Dir) (far n d a b c : ℤ) → a ≡ far → b ≡ n → c ≡ d → IsBehind dir a b c → IsBehind dir far n d
behind_same dir far n d a b c e f g h =
    subst (λ (x : ℤ). IsBehind dir x n d) e (subst (λ (x : ℤ). IsBehind dir a x d) f (subst (λ (x : ℤ). IsBehind dir a b x) g h))

pub reached_same : (dir : Dir) (far n d a b c : ℤ) → a ≡ far → b ≡ n → c ≡ d → IsReached dir a b c → IsReached dir far n d
reached_same dir far n d a b c e f g h =
    subst (λ (x : ℤ). IsReached dir x n d) e (subst (λ (x : ℤ). IsReached dir a x d) f (subst (λ (x : ℤ). IsReached dir a b x) g h))

pub farther_same : (dir : Dir) (q far v a b : ℤ) → q ≡ farther dir a b → a ≡ far → b ≡ v → q ≡ farther dir far v
farther_same dir q far v a b h e f = h ∙ ap (λ (x : ℤ). farther dir x b) e ∙ ap (λ (x : ℤ). farther dir far x) f
