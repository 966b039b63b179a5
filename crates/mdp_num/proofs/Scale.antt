-- Powers of ten within the limit.
use Rattle.std.proofs.Common.{◌≡◌, ℕ, ◌+◌, ◌-◌, ◌*◌, ◌^◌, ◌<◌, ◌≤◌, ◌≢◌, inl, inr, sym, ap, ◌∙◌, arith, lit<, min, cond, Bool, true, false, Ok, Err}
use Rattle.std.proofs.{Math.Nat.{pow-le-pow_right, mul-lt-mul_of_pos_right, mul-le-mul_right, one-le-pow}, lemmas.Nat.{pow-add}}
use Rattle.std.proofs.{lemmas.Bool.{cases_lt, cases_eq}, lemmas.Bool.Decides.{nat_tests}}
use Rattle.mdp_num.specs.{Numeral.{limit, scaled}, declared.errors.NumeralError.TheVariants.{Large}}

pub ten-le : (e : ℕ) → e ≤ 36 → 10 ^ e ≤ limit
ten-le e le = let p : 10 ^ e ≤ 10 ^ 36 = pow-le-pow_right (lit< tt) le in p

-- a product past the limit
pub past_limit : (d e : ℕ) → 0 < d → e ≤ 36 → 10 ^ (36 - e) < d → limit < d * 10 ^ e
past_limit d e pos le lt =
    let whole : 10 ^ (36 - e) * 10 ^ e ≡ limit = (let k-is : (36 - e) + e ≡ 36 = omega arith in sym (pow-add 10 (36 - e) e) ∙ ap (λ (k : ℕ). 10 ^ k) k-is) in
    let step : 10 ^ (36 - e) * 10 ^ e < d * 10 ^ e = mul-lt-mul_of_pos_right lt (one-le-pow e 10 (lit< tt)) in
    omega (arith, whole, step)

pub past_tens : (d e : ℕ) → 0 < d → 36 < e → limit < d * 10 ^ e
past_tens d e pos lt =
    let p : 10 ^ 37 ≤ 10 ^ e = (let le : 37 ≤ e = omega arith in pow-le-pow_right (lit< tt) le) in
    let q : 1 * 10 ^ e ≤ d * 10 ^ e = mul-le-mul_right (10 ^ e) (omega arith) in
    omega (arith, p, q)

pub within_limit : (d e : ℕ) → e ≤ 36 → d ≤ 10 ^ (36 - e) → d * 10 ^ e ≤ limit
within_limit d e le fits =
    let whole : 10 ^ (36 - e) * 10 ^ e ≡ limit = (let k-is : (36 - e) + e ≡ 36 = omega arith in sym (pow-add 10 (36 - e) e) ∙ ap (λ (k : ℕ). 10 ^ k) k-is) in
    let step : d * 10 ^ e ≤ 10 ^ (36 - e) * 10 ^ e = mul-le-mul_right (10 ^ e) fits in
    omega (arith, whole, step)

pub scaled-large : (d up down : ℕ) → d ≢ 0 → d ≤ limit → down ≤ up → limit < d * 10 ^ (up - down) → scaled d up down ≡ Err Large
scaled-large d up down some fits up_wins large = grind (arith, nat_tests)

pub scaled-whole : (d up down : ℕ) → d ≢ 0 → d ≤ limit → down ≤ up → d * 10 ^ (up - down) ≤ limit → scaled d up down ≡ Ok (d * 10 ^ (up - down), 1)
scaled-whole d up down some fits up_wins small = grind (arith, nat_tests)

scaled-zero : (d up down : ℕ) → d ≡ 0 → scaled d up down ≡ Ok (0, 1)
scaled-zero d up down none = grind (arith, nat_tests)

scaled-past : (d up down : ℕ) → limit < d → scaled d up down ≡ Err Large
scaled-past d up down past = grind (arith, nat_tests)

scaled-low : (d up down : ℕ) → d ≢ 0 → up + 36 < down → scaled d up down ≡ Err Large
scaled-low d up down some low = grind (arith, nat_tests)

-- with the exponent far up, or far down
scaled-up : (d up down : ℕ) → d ≤ limit → down + 36 < up → d ≢ 0 → scaled d up down ≡ Err Large
scaled-up d up down fits far some = scaled-large d up down some fits (omega arith) (past_tens d (up - down) (omega arith) (omega arith))

same-up : (d up down up' : ℕ) → down + 36 < up → down + 36 < up' → scaled d up down ≡ scaled d up' down
same-up d up down up' far far' =
    elim (cases_eq d 0) [
      | inl none ↦ scaled-zero d up down none ∙ sym (scaled-zero d up' down none)
      | inr some ↦ elim (cases_lt limit d) [
        | inl past ↦ scaled-past d up down past ∙ sym (scaled-past d up' down past)
        | inr fits ↦ scaled-up d up down fits far some ∙ sym (scaled-up d up' down fits far' some)
      ]
    ]

same-down : (d up down down' : ℕ) → up + 36 < down → up + 36 < down' → scaled d up down ≡ scaled d up down'
same-down d up down down' far far' =
    elim (cases_eq d 0) [
      | inl none ↦ scaled-zero d up down none ∙ sym (scaled-zero d up down' none)
      | inr some ↦ scaled-low d up down some far ∙ sym (scaled-low d up down' some far')
    ]

same-digits : (d up down : ℕ) → scaled (min d (limit + 1)) up down ≡ scaled d up down
same-digits d up down =
    elim (cases_lt limit d) [
      | inl past ↦ scaled-past (min d (limit + 1)) up down (omega arith) ∙ sym (scaled-past d up down past)
      | inr fits ↦ ap (λ (n : ℕ). scaled n up down) (let e : min d (limit + 1) ≡ d = omega arith in e)
    ]

-- caps on the digits and on the exponent change nothing
pub scaled-capped : (d x j f : ℕ) (negative : Bool) → j < 2 ^ 100 → f < 2 ^ 100
    → scaled (min d (limit + 1)) (cond negative 0 (min x (limit + 1)) + j) (cond negative (min x (limit + 1)) 0 + f) ≡ scaled d (cond negative 0 x + j) (cond negative x 0 + f)
scaled-capped d x j f true j-fits f-fits =
    same-digits d (0 + j) (min x (limit + 1) + f) ∙ elim (cases_lt x (limit + 1)) [
      | inl lt ↦ ap (λ (n : ℕ). scaled d (0 + j) (n + f)) (let e : min x (limit + 1) ≡ x = omega arith in e)
      | inr le ↦ same-down d (0 + j) (min x (limit + 1) + f) (x + f) (omega arith) (omega arith)
    ]
scaled-capped d x j f false j-fits f-fits =
    same-digits d (min x (limit + 1) + j) (0 + f) ∙ elim (cases_lt x (limit + 1)) [
      | inl lt ↦ ap (λ (n : ℕ). scaled d (n + j) (0 + f)) (let e : min x (limit + 1) ≡ x = omega arith in e)
      | inr le ↦ same-up d (min x (limit + 1) + j) (0 + f) (x + j) (omega arith) (omega arith)
    ]
