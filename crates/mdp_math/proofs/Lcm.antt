-- The least common multiple is a multiple of both numbers, and above 0 where both are.
use Rattle.std.proofs.Common.{◌≡◌, ℕ, ◌*◌, ◌/◌, ◌<◌, ◌≤◌, sym, ◌∙◌, ap, subst, arith, mul_comm}
use Rattle.std.proofs.Math.Nat.{dvd-mul_left, dvd-mul_right, mul-div_cancel', div-mul_cancel, div_self, one-le-mul, le_of_dvd, dvd_of_mul-dvd-mul_left, dvd_antisymm, dvd_refl}
use Rattle.std.specs.Int.{◌∣◌}
use Rattle.mdp_math.specs.{Gcd.{gcd, gcd_is, gcd_comm, gcd-pos, gcd-reduced, gcd-one_right, gauss, lcm}, Rational.{quotient-pos}}

pub lcm-left : (a b : ℕ) → a ∣ lcm a b
lcm-left a b =
    let g = gcd_is a b in
    let e : a * (b / gcd a b) ≡ lcm a b =
    let x = div-mul_cancel (gcd a b) g.0 in
    let y = mul-div_cancel' (gcd a b) g.1 in
    let p = ap (λ k. k * (b / gcd a b)) x in
    let q = ap (λ k. (a / gcd a b) * k) y in
    omega (arith, p, q)
    in
    subst (λ (k : ℕ). a ∣ k) e (dvd-mul_right a (b / gcd a b))

pub lcm-right : (a b : ℕ) → b ∣ lcm a b
lcm-right a b = dvd-mul_left b (a / gcd a b)

pub lcm-pos : (a b : ℕ) → 0 < a → 0 < b → 0 < lcm a b
lcm-pos a b p q = one-le-mul (quotient-pos a (gcd a b) p (gcd_is a b).0) q

pub lcm-one : (a : ℕ) → lcm a 1 ≡ a
lcm-one a = ap (λ (g : ℕ). a / g * 1) (gcd-one_right a) ∙ omega arith

pub lcm-ge_right : (a b : ℕ) → 0 < a → 0 < b → b ≤ lcm a b
lcm-ge_right a b p q = le_of_dvd (lcm-pos a b p q) (lcm-right a b)

-- it divides each common multiple
lcm_parts : (a b m : ℕ) → 0 < b → a ∣ b * m → a / gcd a b ∣ m
lcm_parts a b m h d =
    let g : ℕ = gcd a b in
    let ea : g * (a / g) ≡ a = mul-div_cancel' g (gcd_is a b).0 in
    let eb : g * (b / g) ≡ b = mul-div_cancel' g (gcd_is a b).1 in
    let em : b * m ≡ g * (b / g * m) = ap (λ (k : ℕ). k * m) (sym eb) ∙ omega arith in
    let q : a / g ∣ b / g * m = dvd_of_mul-dvd-mul_left (a / g) (gcd-pos a b h) (subst (λ (k : ℕ). k ∣ g * (b / g * m)) (sym ea) (subst (λ (k : ℕ). a ∣ k) em d)) in
    gauss (b / g) (a / g) m (gcd_comm (b / g) (a / g) ∙ gcd-reduced a b h) (subst (λ (k : ℕ). a / g ∣ k) (mul_comm (b / g) m) q)

pub lcm-least : (a b c : ℕ) → 0 < b → a ∣ c → b ∣ c → lcm a b ∣ c
lcm-least a b c h p q =
    let m : ℕ = c / b in
    let e : b * m ≡ c = mul-div_cancel' b q in
    let d : a / gcd a b ∣ m = lcm_parts a b m h (subst (λ (k : ℕ). a ∣ k) (sym e) p) in
    let f : a / gcd a b * (m / (a / gcd a b)) ≡ m = mul-div_cancel' (a / gcd a b) d in
    let k : ℕ = m / (a / gcd a b) in
    let s : lcm a b * k ≡ c = omega (arith, ap (λ (n : ℕ). b * n) f, e) in
    subst (λ (n : ℕ). lcm a b ∣ n) s (dvd-mul_right (lcm a b) k)

-- of a number and a divisor of it, it is the number
pub lcm-multiple : (a b : ℕ) → 0 < b → b ∣ a → lcm a b ≡ a
lcm-multiple a b h d =
    let e : gcd a b ≡ b = dvd_antisymm (gcd_is a b).1 ((gcd_is a b).2 b d (dvd_refl b)) in
    ap (λ (g : ℕ). a / g * b) e ∙ div-mul_cancel b d

-- and so for a number that divides another one, it is the other
pub lcm-factor : (a b : ℕ) → 0 < a → a ∣ b → lcm a b ≡ b
lcm-factor a b h d =
    let e : gcd a b ≡ a = dvd_antisymm (gcd_is a b).0 ((gcd_is a b).2 a (dvd_refl a) d) in
    ap (λ (g : ℕ). a / g * b) e ∙ ap (λ (k : ℕ). k * b) (div_self h) ∙ omega arith
