-- A quotient of whole numbers in width, as it is read.
use Rattle.std.proofs.Common.{◌≡◌, ◌≢◌, ℕ, ◌*◌, ◌/◌, ◌<◌, ◌≤◌, ◌^◌, false, Option, Some, ℤ, pos, to_z, unsigned_abs, sym, ap, ◌∙◌, arith}
use Rattle.std.proofs.{lemmas.Int.{ints, to_z_pos}, Math.Nat.{div-le_self}}
use mir.Syntax.{w128}
use Rattle.mdp_math.specs.{Gcd.{gcd, gcd_comm, lcm}, Rational.{ℚ, ratio}, Written.{narrow_ℚ}}
use Rattle.mdp_math.proofs.Written.{narrow_ℚ-kept, num-ratio_signed, den-ratio_signed}
use Rattle.mdp_num.specs.Value.{quotient}

quotient_kept : (n d : ℕ) → 0 < d → n < 2 ^ 127 → d < 2 ^ 127 → narrow_ℚ (ratio (pos n) d) ≡ Some (ratio (pos n) d)
quotient_kept n d h k l =
    let p : ℚ.num (ratio (pos n) d) ≡ pos (n / gcd n d) = num-ratio_signed false n d h in
    let q : ℚ.den (ratio (pos n) d) ≡ d / gcd n d = den-ratio_signed false n d h in
    let np : n / gcd n d ≤ n = div-le_self n (gcd n d) in
    let dp : d / gcd n d ≤ d = div-le_self d (gcd n d) in
    narrow_ℚ-kept (ratio (pos n) d) (let e : unsigned_abs (ℚ.num (ratio (pos n) d)) ≡ n / gcd n d = ap unsigned_abs p in omega arith) (omega arith)

pub quotient_read : (n d : ℕ) (o : Option ℚ) → 0 < d → n < 2 ^ 127 → d < 2 ^ 127 → (to_z w128 d ≢ pos 0 → o ≡ narrow_ℚ (quotient (to_z w128 n) (to_z w128 d))) → o ≡ Some (ratio (pos n) d)
quotient_read n d o h k l e =
    let zd : to_z w128 d ≡ pos d = to_z_pos w128 d (omega arith) in
    let zn : to_z w128 n ≡ pos n = to_z_pos w128 n (omega arith) in
    e (λ z. let x : pos d ≡ pos 0 = sym zd ∙ z in absurd (omega (arith, ints)))
    ∙ ap (λ (z : ℤ). narrow_ℚ (quotient z (to_z w128 d))) zn ∙ ap (λ (z : ℤ). narrow_ℚ (quotient (pos n) z)) zd ∙ quotient_kept n d h k l

-- the denominator of b/a in lowest terms is what the least common multiple has beyond b
pub multiple_is : (a b n : ℕ) (o : Option ℚ) (x : ℚ) → 0 < a → o ≡ Some (ratio (pos b) a) → o ≡ Some x → n ≡ x.den → n * b ≡ lcm a b
multiple_is a b n o x h e f g =
    let is : x ≡ ratio (pos b) a = (let s = sym f ∙ e in cc) in
    ap (λ (m : ℕ). m * b) (g ∙ ap (λ (y : ℚ). y.den) is ∙ den-ratio_signed false b a h ∙ ap (λ (m : ℕ). a / m) (gcd_comm b a))
