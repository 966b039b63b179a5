-- What a greatest common divisor keeps where a factor, a difference or a power of 2 is dropped.
use Rattle.std.proofs.Common.{◌≡◌, ℕ, zero, suc, ◌+◌, ◌-◌, ◌*◌, ◌/◌, ◌%◌, ◌^◌, ◌<◌, ◌≤◌, min, arith, sym, ◌∙◌, ap, ap₂, subst, mul_comm, mul-zero, mod-eq_of_lt}
use Rattle.std.proofs.lemmas.Nat.Gcd.{dvd_refl, dvd_trans, dvd_antisymm, IsGcd-from_sub, same_from_IsGcd}
use Rattle.std.proofs.{Math.Nat.{one-dvd, mul-dvd-mul_left, mul-sub, mul-div_cancel_left, dvd-mul_right, add-mod_right}, lemmas.Nat.{pow-add, pow_pos}}
use Rattle.std.proofs.lemmas.Nat.Bits.{bit_at_lowest, bit_at-suc, bit_at-trailing_zeros}
use Rattle.std.specs.Int.{◌∣◌, bit_at, trailing_zeros, Width, abs_diff}
use native.Mathlib.Nat.{dvd-mul_left, mul-div_cancel', div-le_self}
use mir.Val.{bits}
use Rattle.mdp_math.specs.Gcd.{gcd, gcd_is, gcd_comm, gauss, coprime_divisors, coprime-mul_left, gcd-mod, gcd-one_right, gcd_scaled, gcd-zero, gcd-le_right}

-- a factor that shares nothing with the other number drops out
pub gcd-drop : (p q r : ℕ) → gcd p r ≡ 1 → gcd (p * q) r ≡ gcd q r
gcd-drop p q r e =
    let k : ℕ = gcd (p * q) r in
    let u : gcd p k ≡ 1 = coprime_divisors p r p (gcd (p * q) r) e (dvd_refl p) (gcd_is (p * q) r).1 in
    let v : k ∣ q = gauss p k q u (subst (λ (x : ℕ). gcd (p * q) r ∣ x) (mul_comm p q) (gcd_is (p * q) r).0) in
    dvd_antisymm ((gcd_is q r).2 (gcd (p * q) r) v (gcd_is (p * q) r).1)
    ((gcd_is (p * q) r).2 (gcd q r) (dvd_trans (gcd q r) (gcd_is q r).0 (dvd-mul_left q p)) (gcd_is q r).1)

pub gcd-difference : (a b : ℕ) → b ≤ a → gcd (a - b) b ≡ gcd a b
gcd-difference a b h = same_from_IsGcd a b (gcd (a - b) b) (gcd a b) (IsGcd-from_sub a b (gcd (a - b) b) h (gcd_is (a - b) b)) (gcd_is a b)

pub gcd-same : (a : ℕ) → gcd a a ≡ a
gcd-same a = dvd_antisymm (gcd_is a a).0 ((gcd_is a a).2 a (dvd_refl a) (dvd_refl a))

-- ---- powers of 2 and odd numbers

coprime_two : (r : ℕ) → r % 2 ≡ 1 → gcd 2 r ≡ 1
coprime_two r e = gcd_comm 2 r ∙ gcd-mod r 2 ∙ ap (gcd 2) e ∙ gcd-one_right 2

pub coprime_power : (k r : ℕ) → r % 2 ≡ 1 → gcd (2 ^ k) r ≡ 1
coprime_power zero r e = gcd_comm 1 r ∙ gcd-one_right r
coprime_power (suc k) r e =
    let step : 2 ^ suc k ≡ 2 * 2 ^ k = omega arith in
    ap (λ (n : ℕ). gcd n r) step ∙ coprime-mul_left 2 (2 ^ k) r (coprime_two r e) (coprime_power k r e)

pub gcd-shifted : (n k r : ℕ) → 2 ^ k ∣ n → r % 2 ≡ 1 → gcd (n / 2 ^ k) r ≡ gcd n r
gcd-shifted n k r h e = sym (gcd-drop (2 ^ k) (n / 2 ^ k) r (coprime_power k r e)) ∙ ap (λ (x : ℕ). gcd x r) (mul-div_cancel' (2 ^ k) h)

gcd-common : (i d p q : ℕ) → p % 2 ≡ 1 → gcd (2 ^ i * p) (2 ^ (i + d) * q) ≡ gcd p q * 2 ^ i
gcd-common i d p q e =
    let whole : 2 ^ (i + d) * q ≡ 2 ^ i * (2 ^ d * q) = ap (λ (n : ℕ). n * q) (pow-add 2 i d) ∙ omega arith in
    ap (gcd (2 ^ i * p)) whole
    ∙ same_from_IsGcd (2 ^ i * p) (2 ^ i * (2 ^ d * q)) _ _ (gcd_is (2 ^ i * p) (2 ^ i * (2 ^ d * q))) (gcd_scaled p (2 ^ d * q) (2 ^ i))
    ∙ ap (λ (n : ℕ). 2 ^ i * n) (gcd_comm p (2 ^ d * q) ∙ gcd-drop (2 ^ d) q p (coprime_power d p e) ∙ gcd_comm q p)
    ∙ mul_comm (2 ^ i) (gcd p q)

-- ---- the lowest bit that is set

zeros-divide : (z n : ℕ) → ((i : ℕ) → i < z → bit_at n i ≡ 0) → 2 ^ z ∣ n
zeros-divide zero n h = one-dvd n
zeros-divide (suc z) n h =
    let low : n % 2 ≡ 0 = sym (bit_at_lowest n) ∙ h 0 (omega arith) in
    let half : 2 ^ z ∣ n / 2 = zeros-divide z (n / 2) (λ i k. sym (bit_at-suc n i) ∙ h (suc i) (omega arith)) in
    let twice : 2 * (n / 2) ≡ n = omega (arith, low) in
    let step : 2 * 2 ^ z ≡ 2 ^ suc z = omega arith in
    subst (λ (k : ℕ). k ∣ n) step (subst (λ (k : ℕ). 2 * 2 ^ z ∣ k) twice (mul-dvd-mul_left (2 ^ z) 2 half))

pub shifted-divides : (w : Width) (n : ℕ) → 0 < n → n < 2 ^ bits w → 2 ^ trailing_zeros w n ∣ n
shifted-divides w n h k = zeros-divide (trailing_zeros w n) n (bit_at-trailing_zeros w n h k).2

pub shifted-odd : (w : Width) (n : ℕ) → 0 < n → n < 2 ^ bits w → n / 2 ^ trailing_zeros w n % 2 ≡ 1
shifted-odd w n h k = (bit_at-trailing_zeros w n h k).1

-- ---- a step by a difference, and the powers of 2 that two numbers share

pub by_order : {P : Type 0} (a b : ℕ) → (a ≤ b → P) → (b ≤ a → P) → P
by_order zero b f g = f (omega arith)
by_order (suc a) zero f g = g (omega arith)
by_order (suc a) (suc b) f g = by_order a b (λ h. f (omega arith)) (λ h. g (omega arith))

gap-divisor : (x y : ℕ) → gcd (abs_diff x y) (min x y) ≡ gcd x y
gap-divisor x y = by_order x y
    (λ h. ap₂ gcd (let e : abs_diff x y ≡ y - x = omega arith in e) (let e : min x y ≡ x = omega arith in e) ∙ gcd-difference y x h ∙ gcd_comm y x)
    (λ h. ap₂ gcd (let e : abs_diff x y ≡ x - y = omega arith in e) (let e : min x y ≡ y = omega arith in e) ∙ gcd-difference x y h)

-- x and y are odd, and have the greatest common divisor of a and b
pub record AreOddFor (a b x y : ℕ) : Type 0 where
  pub same : gcd x y ≡ gcd a b
  pub odd_x : x % 2 ≡ 1
  pub odd_y : y % 2 ≡ 1

min-odd : (x y : ℕ) → x % 2 ≡ 1 → y % 2 ≡ 1 → min x y % 2 ≡ 1
min-odd x y p q = by_order x y
    (λ h. ap (λ (n : ℕ). n % 2) (let e : min x y ≡ x = omega arith in e) ∙ p)
    (λ h. ap (λ (n : ℕ). n % 2) (let e : min x y ≡ y = omega arith in e) ∙ q)

positive-factor : (p t n : ℕ) → n ≡ p * t → 0 < n → 0 < t
positive-factor p zero n e h = absurd (omega (arith, e, mul-zero p, h))
positive-factor p (suc t) n e h = omega arith

-- a shift by k makes n odd
pub record IsOddShift (k n : ℕ) : Type 0 where
  pub divides : 2 ^ k ∣ n
  pub odd : n / 2 ^ k % 2 ≡ 1

own-shift : (w : Width) (n : ℕ) → 0 < n → n < 2 ^ bits w → IsOddShift (trailing_zeros w n) n
own-shift w n h k = record { divides = shifted-divides w n h k; odd = shifted-odd w n h k }

-- a number of w bits and its negation have the same zeros below the lowest 1
split-power : (k r n q : ℕ) → n < 2 ^ (k + suc r) → 2 ^ k * q ≡ n → q % 2 ≡ 1 → IsOddShift k (2 ^ (k + suc r) - n)
split-power k r n q h e o =
    let b : ℕ = 2 ^ r in
    let whole : 2 ^ (k + suc r) ≡ 2 ^ k * (2 * b) = pow-add 2 k (suc r) ∙ ap (λ (m : ℕ). 2 ^ k * m) (let u : 2 ^ suc r ≡ 2 * 2 ^ r = omega arith in u) in
    let rest : 2 ^ (k + suc r) - n ≡ 2 ^ k * (2 * b - q) = ap₂ (λ (m l : ℕ). m - l) whole (sym e) ∙ sym (mul-sub (2 ^ k) (2 * b) q) in
    let some : 0 < 2 * b - q = positive-factor (2 ^ k) (2 * b - q) (2 ^ (k + suc r) - n) rest (omega (arith, h)) in
    let quotient : (2 ^ (k + suc r) - n) / 2 ^ k ≡ 2 * b - q = ap (λ (m : ℕ). m / 2 ^ k) rest ∙ mul-div_cancel_left (2 * b - q) (pow_pos k) in
    record {
      divides = subst (λ (m : ℕ). 2 ^ k ∣ m) (sym rest) (dvd-mul_right (2 ^ k) (2 * b - q));
      odd = ap (λ (m : ℕ). m % 2) quotient ∙ (let u : (2 * b - q) % 2 ≡ 1 = omega (arith, some, o) in u);
    }

negated-shift : (w : Width) (n : ℕ) → 0 < n → n < 2 ^ bits w → IsOddShift (trailing_zeros w n) (2 ^ bits w - n)
negated-shift w n h k =
    let z : ℕ = trailing_zeros w n in
    let below : z < bits w = (bit_at-trailing_zeros w n h k).0 in
    let e : trailing_zeros w n + suc (bits w - suc (trailing_zeros w n)) ≡ bits w = omega (arith, below) in
    subst (λ (m : ℕ). IsOddShift (trailing_zeros w n) (2 ^ m - n)) e
    (split-power (trailing_zeros w n) (bits w - suc (trailing_zeros w n)) n (n / 2 ^ trailing_zeros w n) (subst (λ (m : ℕ). n < 2 ^ m) (sym e) k)
    (mul-div_cancel' (2 ^ trailing_zeros w n) (shifted-divides w n h k)) (shifted-odd w n h k))

-- the zeros of a difference that wrapped serve for the difference without its sign
pub wrapped-shift : (w : Width) (x y g : ℕ) → (x ≡ y → ⊥) → x < 2 ^ bits w → y < 2 ^ bits w → g ≡ abs_diff x y → IsOddShift (trailing_zeros w ((y + (2 ^ bits w - x)) % 2 ^ bits w)) g
wrapped-shift w x y g ne p q eg = by_order x y
    (λ h.
    let e : (y + (2 ^ bits w - x)) % 2 ^ bits w ≡ y - x = ap (λ (n : ℕ). n % 2 ^ bits w) (let u : y + (2 ^ bits w - x) ≡ (y - x) + 2 ^ bits w = omega (arith, h, p) in u)
    ∙ add-mod_right (y - x) (2 ^ bits w) ∙ mod-eq_of_lt (omega (arith, q)) in
    let f : y - x ≡ g = omega (arith, h, eg) in
    subst (λ (n : ℕ). IsOddShift (trailing_zeros w n) g) (sym (e ∙ f)) (own-shift w g (omega (arith, eg, ne)) (omega (arith, f, q))))
    (λ h.
    let e : (y + (2 ^ bits w - x)) % 2 ^ bits w ≡ y + (2 ^ bits w - x) = mod-eq_of_lt (omega (arith, h, ne, p, q)) in
    let f : 2 ^ bits w - (y + (2 ^ bits w - x)) ≡ g = omega (arith, h, p, eg) in
    subst (λ (n : ℕ). IsOddShift (trailing_zeros w n) g) (sym e) (subst (IsOddShift (trailing_zeros w (y + (2 ^ bits w - x)))) f
    (negated-shift w (y + (2 ^ bits w - x)) (omega (arith, p)) (omega (arith, h, ne, p, q)))))

pub gap_step : (a b x y : ℕ) → AreOddFor a b x y → (k g m : ℕ) → g ≡ abs_diff x y → m ≡ min x y → IsOddShift k g → AreOddFor a b (g / 2 ^ k) m
gap_step a b x y h k g m eg em s =
    let odd : m % 2 ≡ 1 = ap (λ (n : ℕ). n % 2) em ∙ min-odd x y h.odd_x h.odd_y in
    record {
      same = gcd-shifted g k m s.divides odd ∙ ap₂ gcd eg em ∙ gap-divisor x y ∙ h.same;
      odd_x = s.odd;
      odd_y = odd;
    }

pub gap_smaller : (k x y g m : ℕ) → (x ≡ y → ⊥) → x % 2 ≡ 1 → y % 2 ≡ 1 → g ≡ abs_diff x y → m ≡ min x y → g / 2 ^ k + m < x + y
gap_smaller k x y g m ne p q eg em = let h : g / 2 ^ k ≤ g = div-le_self g (2 ^ k) in omega (arith, h, eg, em, ne, p, q)

pub end_divisor : (a b x y : ℕ) → AreOddFor a b x y → x ≡ y → x ≡ gcd a b
end_divisor a b x y h e = sym (gcd-same x) ∙ ap (gcd x) e ∙ h.same

-- of 2 ^ i times an odd number and 2 ^ j times another
powers-divisor : (i j p q : ℕ) → p % 2 ≡ 1 → q % 2 ≡ 1 → gcd (2 ^ i * p) (2 ^ j * q) ≡ gcd p q * 2 ^ min i j
powers-divisor i j p q u v = by_order i j
    (λ h. ap (λ (n : ℕ). gcd (2 ^ i * p) (2 ^ n * q)) (let e : j ≡ i + (j - i) = omega arith in e) ∙ gcd-common i (j - i) p q u
    ∙ ap (λ (n : ℕ). gcd p q * 2 ^ n) (let e : i ≡ min i j = omega arith in e))
    (λ h. gcd_comm (2 ^ i * p) (2 ^ j * q) ∙ ap (λ (n : ℕ). gcd (2 ^ j * q) (2 ^ n * p)) (let e : i ≡ j + (i - j) = omega arith in e) ∙ gcd-common j (i - j) q p v
    ∙ ap₂ (λ (k n : ℕ). k * 2 ^ n) (gcd_comm q p) (let e : j ≡ min i j = omega arith in e))

-- a result of odd parts, shifted back
pub shifted_back : (w : Width) (a b r z : ℕ) → (a ≡ 0 → ⊥) → (b ≡ 0 → ⊥) → a < 2 ^ bits w → b < 2 ^ bits w
    → r ≡ gcd (a / 2 ^ trailing_zeros w a) (b / 2 ^ trailing_zeros w b) → z ≡ min (trailing_zeros w a) (trailing_zeros w b)
    → r * 2 ^ z % 2 ^ bits w ≡ gcd a b
shifted_back w a b r z na nb p q er ez =
    let some_a : 0 < a = omega (arith, na) in
    let some_b : 0 < b = omega (arith, nb) in
    let e : r * 2 ^ z ≡ gcd a b =
    ap₂ (λ (k n : ℕ). k * 2 ^ n) er ez
    ∙ sym (powers-divisor (trailing_zeros w a) (trailing_zeros w b) (a / 2 ^ trailing_zeros w a) (b / 2 ^ trailing_zeros w b) (shifted-odd w a some_a p) (shifted-odd w b some_b q))
    ∙ ap₂ gcd (mul-div_cancel' (2 ^ trailing_zeros w a) (shifted-divides w a some_a p)) (mul-div_cancel' (2 ^ trailing_zeros w b) (shifted-divides w b some_b q))
    in
    let below : gcd a b ≤ b = gcd-le_right a b some_b in
    ap (λ (n : ℕ). n % 2 ^ bits w) e ∙ mod-eq_of_lt (omega (arith, below, q))

pub zero-divisor : (a b : ℕ) → a ≡ 0 → b ≡ gcd a b
zero-divisor a b e = sym (gcd_comm a b ∙ ap (gcd b) e ∙ gcd-zero b)

pub divisor-zero : (a b : ℕ) → b ≡ 0 → a ≡ gcd a b
divisor-zero a b e = sym (ap (gcd a) e ∙ gcd-zero a)

pub one-divisor : (a b : ℕ) → a ≡ 1 → 1 ≡ gcd a b
one-divisor a b e = sym (gcd_comm a b ∙ ap (gcd b) e ∙ gcd-one_right b)

pub divisor-one : (a b : ℕ) → b ≡ 1 → 1 ≡ gcd a b
divisor-one a b e = sym (ap (gcd a) e ∙ gcd-one_right a)
