-- Written sums and products with 0.
use Rattle.std.proofs.{Common.{◌≡◌, ℕ, ◌/◌, Option, Some, None, ℤ, pos, ◌+ℤ◌, ◌*ℤ◌, refl, sym, ap, ◌∙◌, arith}, lemmas.Int.{ints}}
use Rattle.mdp_math.specs.{Gcd.{gcd, gcd-one_right}, Rational.{ℚ, ◌+ℚ◌, ◌*ℚ◌, inv_ℚ}}
use Rattle.mdp_math.specs.Written.{narrow, narrow_ℚ, across, common_den, written_add, written_mul, ◌>>=◌}
use Rattle.mdp_math.proofs.{Laws.{num-of_int, den-of_int, rat_ring}, Ring.{◌⊕◌, ◌⊗◌, lit, ring}, Written.{narrow-kept, narrow_ℚ-kept}, Order.{0ℚ}}
use Rattle.mdp_num.specs.{Value.{IsNarrow}, Written.{written_div}}

none_across : (r : ℚ) → across 0ℚ r ≡ pos 0
none_across r = ap (λ (z : ℤ). z *ℤ pos (r.den / gcd (ℚ.den 0ℚ) r.den)) (num-of_int (pos 0)) ∙ omega (arith, ints)

all_across : (r : ℚ) → across r 0ℚ ≡ r.num
all_across r =
    ap (λ (d : ℕ). r.num *ℤ pos (d / gcd r.den d)) (den-of_int (pos 0)) ∙ ap (λ (g : ℕ). r.num *ℤ pos (1 / g)) (gcd-one_right r.den) ∙ omega (arith, ints)

over_one : (n : ℕ) → pos (n / 1) *ℤ pos 1 ≡ pos n
over_one n = omega (arith, ints)

common_is : (r : ℚ) → common_den r 0ℚ ≡ pos r.den
common_is r =
    ap (λ (d : ℕ). pos (r.den / gcd r.den d) *ℤ pos d) (den-of_int (pos 0)) ∙ ap (λ (g : ℕ). pos (r.den / g) *ℤ pos 1) (gcd-one_right r.den) ∙ over_one r.den

plus_none : (z : ℤ) → z +ℤ pos 0 ≡ z
plus_none z = omega (arith, ints)

plus_zero : (r : ℚ) → r +ℚ 0ℚ ≡ r
plus_zero r = ring rat_ring 1 (λ x. x ⊕ lit (pos 0)) (λ x. x) refl r

times_zero : (r : ℚ) → r *ℚ 0ℚ ≡ 0ℚ
times_zero r = ring rat_ring 1 (λ x. x ⊗ lit (pos 0)) (λ x. lit (pos 0)) refl r

zero_times : (r : ℚ) → 0ℚ *ℚ r ≡ 0ℚ
zero_times r = ring rat_ring 1 (λ x. lit (pos 0) ⊗ x) (λ x. lit (pos 0)) refl r

add-zero : (r : ℚ) → IsNarrow r → written_add r 0ℚ ≡ Some r
unfolding written_add
add-zero r w =
    let n = w.top in
    let d = w.bottom in
    let a : narrow (across r 0ℚ) ≡ Some r.num = ap narrow (all_across r) ∙ narrow-kept r.num n in
    let b : narrow (across 0ℚ r) ≡ Some (pos 0) = ap narrow (none_across r) ∙ narrow-kept (pos 0) (omega arith) in
    let c : narrow (r.num +ℤ pos 0) ≡ Some r.num = ap narrow (plus_none r.num) ∙ narrow-kept r.num n in
    let e : narrow (common_den r 0ℚ) ≡ Some (pos r.den) = ap narrow (common_is r) ∙ narrow-kept (pos r.den) d in
    let f : narrow_ℚ (r +ℚ 0ℚ) ≡ Some r = ap narrow_ℚ (plus_zero r) ∙ narrow_ℚ-kept r n d in
    rw (a, b, c, e) f

zero_kept : narrow_ℚ 0ℚ ≡ Some 0ℚ
zero_kept = narrow_ℚ-kept 0ℚ (rw (num-of_int (pos 0)) (omega arith)) (rw (den-of_int (pos 0)) (omega arith))

mul-zero : (t : ℚ) → written_mul t 0ℚ ≡ Some 0ℚ
unfolding written_mul
mul-zero t = ap narrow_ℚ (times_zero t) ∙ zero_kept

zero-mul : (t : ℚ) → written_mul 0ℚ t ≡ Some 0ℚ
unfolding written_mul
zero-mul t = ap narrow_ℚ (zero_times t) ∙ zero_kept

pub plus_none_of : (sum times value : ℚ) → IsNarrow sum → value ≡ 0ℚ → Some sum ≡ (written_mul times value >>= written_add sum)
plus_none_of sum times value w h = rw (h, mul-zero times) (sym (add-zero sum w))

pub quotient_of_none : (dividend divisor : ℚ) → dividend ≡ 0ℚ → Some dividend ≡ written_div dividend divisor
quotient_of_none dividend divisor h = rw h (sym (zero-mul (inv_ℚ divisor)))

-- one step after another
pub bind_none : {A B C : Type 0} (o : Option A) (f : A → Option B) (g : B → Option C) → None ≡ (o >>= f) → (o >>= (λ a. f a >>= g)) ≡ None
bind_none None f g h = refl
bind_none (Some a) f g h = ap (λ p. p >>= g) (sym h)

pub bind_some : {A B C : Type 0} (o : Option A) (f : A → Option B) (g : B → Option C) (b : B) → Some b ≡ (o >>= f) → (o >>= (λ a. f a >>= g)) ≡ g b
bind_some None f g b h = absurd (let k : Some b ≡ None = h in cc)
bind_some (Some a) f g b h = ap (λ p. p >>= g) (sym h)
