-- The rounded sum of a choice lies beyond its exact sum, and less than one unit from it where the row has room.
use Rattle.std.proofs.Common.{◌≡◌, ◌∙◌, Bool, true, false, if◌then◌else◌, List, [], ◌∷◌, length, Option, Some, None, refl, sym, ap, subst, arith, ℤ, pos, int_lt}
use Rattle.std.proofs.lemmas.Int.{ints}
use Rattle.mdp_math.specs.{Rational.{ℚ, of_int, ◌+ℚ◌, ◌*ℚ◌, ◌<ℚ◌}, Written.{◌>>=◌}}
use Rattle.mdp_math.proofs.{Linear.{linear_lt, known}, Order.{0ℚ, 1ℚ, mul-le-mul_left_ℚ, mul-lt-mul_left_ℚ, ≤ℚ_of_lt, sub-pos}, Ring.{◌⊕◌, ◌⊗◌, ⊖, lit}}
use Rattle.mdp_math.proofs.Whole.{ratio-pos}
use Rattle.mdp_rows.specs.{declared.dir.Dir.{Dir}, declared.dir.Dir.TheVariants.{Max, Min}}
use Rattle.mdp_horizon.proofs.{Directions.{NoBetter}, Rounding.{IsClose}, Totals.{exact, IsRounded, divided-is, IsTrivial, rounded_sum-is}}
use Rattle.mdp_horizon.proofs.Units.{unit, in_units-is, no_better_in_units, backed_up-is}
use Rattle.mdp_horizon.specs.Exact.{LiesBeyond, IsWithin, exact_sum, SumLiesBeyond, HasRoom, SumIsWithin}
use Rattle.mdp_horizon.specs.{Scaled.{Scaled, total_of, divided, trivial, or_else, rounded_sum}, Whole.{in_units, rounded}}

lies_beyond : (side : Dir) (x y : ℚ) → NoBetter side x y → LiesBeyond side x y
lies_beyond Max x y h = h
lies_beyond Min x y h = h

pub sum_lies_beyond : (side : Dir) (column : List (Option ℤ)) (x : Scaled) (k : ℤ) → rounded_sum side column x ≡ Some k → SumLiesBeyond side column x k
sum_lies_beyond side column x k told one start row h r e =
    let t : IsTrivial side one start row column k = rounded_sum-is side (length column) one start row column k r (ap (rounded_sum side column) (sym e) ∙ told) in
    lies_beyond side (exact_sum one start row column) (in_units (pos one) k)
    (subst (λ (y : ℚ). NoBetter side y (in_units (pos one) k)) (backed_up-is one (length column) start column row h refl r.in_range t.there)
    (no_better_in_units side one (exact one start row column) k h t.beyond))

-- within one, from both sides
scaled_lt : (u x y : ℚ) → u *ℚ x <ℚ u *ℚ (y +ℚ 1ℚ) → x *ℚ u <ℚ y *ℚ u +ℚ u
scaled_lt u x y l = linear_lt 3 (λ u x y. x ⊗ u) (λ u x y. y ⊗ u ⊕ u) (λ u x y. u ⊗ (y ⊕ lit (pos 1)) ⊕ ⊖ (u ⊗ x)) (λ u x y. []) refl u x y (sub-pos (u *ℚ x) (u *ℚ (y +ℚ 1ℚ)) l)

within_one : (side : Dir) (u e k : ℚ) → 0ℚ <ℚ u → NoBetter side e k → IsClose side e k → IsWithin u (e *ℚ u) (k *ℚ u)
within_one Max u e k h p q = (
  linear_lt 3 (λ u e k. e ⊗ u) (λ u e k. k ⊗ u ⊕ u) (λ u e k. u) (λ u e k. known (u ⊗ e) (u ⊗ k) ∷ []) refl u e k h (mul-le-mul_left_ℚ u e k (≤ℚ_of_lt 0ℚ u h) p),
  scaled_lt u k e (mul-lt-mul_left_ℚ u k (e +ℚ 1ℚ) h q),
)
within_one Min u e k h p q = (
  scaled_lt u e k (mul-lt-mul_left_ℚ u e (k +ℚ 1ℚ) h q),
  linear_lt 3 (λ u e k. k ⊗ u) (λ u e k. e ⊗ u ⊕ u) (λ u e k. u) (λ u e k. known (u ⊗ k) (u ⊗ e) ∷ []) refl u e k h (mul-le-mul_left_ℚ u k e (≤ℚ_of_lt 0ℚ u h) p),
)

-- with room the sum is the divided one
pub if_true : {A : Type 0} (b : Bool) (x y : A) → b ≡ true → (if b then x else y) ≡ x
if_true true x y e = refl
if_true false x y e = cc

with_room : (side : Dir) (column : List (Option ℤ)) (x : Scaled) (k : ℤ) → HasRoom column x → rounded_sum side column x ≡ Some k → divided side column x ≡ Some k
unfolding rounded_sum
with_room side column x k room told =
    let test : int_lt (pos 0) x.scale.common ≡ true = grind (arith, ints, room.0) in
    let is : divided side column x ≡ Some (rounded side room.1.0 x.scale.common) =
    if_true (int_lt (pos 0) x.scale.common) (total_of column x.scale.start x.terms >>= (λ n. Some (rounded side n x.scale.common))) None test
    ∙ ap (λ (o : Option ℤ). o >>= (λ n. let r : Option ℤ = Some (rounded side n x.scale.common) in r)) room.1.1
    in
    is ∙ sym (ap (λ (o : Option ℤ). or_else o (trivial side column x)) is) ∙ told

pub sum_is_within : (side : Dir) (column : List (Option ℤ)) (x : Scaled) (k : ℤ) → HasRoom column x → rounded_sum side column x ≡ Some k → SumIsWithin column x k
sum_is_within side column x k room told one start row h r e =
    let d : IsRounded side one start row column k = divided-is side one start row column k (ap (divided side column) (sym e) ∙ with_room side column x k room told) in
    let w : IsWithin (unit one) (exact one start row column *ℚ unit one) (of_int k *ℚ unit one) =
    within_one side (unit one) (exact one start row column) (of_int k) (ratio-pos 1 one (omega arith) h) d.beyond d.close in
    subst (λ (y : ℚ). IsWithin (unit one) y (in_units (pos one) k)) (backed_up-is one (length column) start column row h refl r.in_range d.there)
    (subst (λ (y : ℚ). IsWithin (unit one) (exact one start row column *ℚ unit one) y) (sym (in_units-is one k h)) w)
