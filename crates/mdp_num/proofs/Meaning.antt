-- The value of a numeral is what its parts mean.
use Rattle.std.proofs.Common.{◌≡◌, ◌≢◌, ℕ, zero, suc, ◌+◌, ◌-◌, ◌*◌, ◌/◌, ◌%◌, ◌^◌, ◌<◌, ◌≤◌}
use Rattle.std.proofs.Common.{inl, inr, Bool, true, false, cond, eqb, ltb, ◌||◌, List, [], ◌∷◌, ◌++◌}
use Rattle.std.proofs.Common.{length, take, get_or, Option, Some, None, Result, Ok, Err, refl, sym, ap, ap₂, subst, ◌∙◌, arith, lit<, pos, unsigned_abs, mul-one}
use Rattle.std.proofs.{Math.Nat.{one-le-pow, div-le_self}, lemmas.Nat.{pow-add, mod-mul-add}}
use Rattle.std.proofs.{lemmas.List.{append-nil, take_more, take_all, length-take-le, get_or-take}, lemmas.Bool.{cases_eq}, lemmas.Bool.Decides.{nat_tests}}
use Rattle.std.specs.{Char.{is_ascii_digit}, Result.{IfOk}}
use Rattle.mdp_math.specs.{Gcd.{gcd}, Rational.{ℚ, ratio}}
use Rattle.mdp_math.proofs.{Laws.{same_is, is_ratio}, Order.{ratio-nonneg}, Written.{num-ratio_signed, den-ratio_signed}}
use Rattle.mdp_num.specs.{Digits.{number}, Grammar.{Spells}}
use Rattle.mdp_num.specs.Numeral.{Parts, Decimal, Quotient, limit, zeros_behind, significant, scaled, decimal_terms, quotient_terms, parts_of, terms_of, value_of, numeral_of}
use Rattle.mdp_num.specs.{Meaning.{meaning, decimal_value, IsMeant, IsRefusedByShape, IsSplit, HasNoZero, AreWithinLimit, IsWithinLimit}}
use Rattle.mdp_num.specs.{declared.errors.NumeralError.{NumeralError}, declared.errors.NumeralError.TheVariants.{Shape, ZeroDen, Large}}
use Rattle.mdp_num.proofs.{Grammar.{sound, complete, chosen, eqb-is, digits-long}, Plain.{digit-at, digit-bounds}, Scale.{ten-le}}
use Rattle.mdp_num.proofs.Zeros.{significant-some, significant-none, zeros-all, zeros-some, number_after-append}

-- ---- one digit more at the end

-- a zero
module _ (xs : List ℕ) where
  one-zero : zeros_behind (48 ∷ []) ≡ length {A = ℕ} (48 ∷ [])
  one-zero = refl

  zeros-zero : zeros_behind (xs ++ 48 ∷ []) ≡ 1 + zeros_behind xs
  zeros-zero = zeros-all xs (48 ∷ []) one-zero

  significant-zero : significant (xs ++ 48 ∷ []) ≡ significant xs
  significant-zero = sym (significant-none xs (48 ∷ []) (zeros_behind xs) refl one-zero) ∙ append-nil (significant xs)

  number-zero : number (xs ++ 48 ∷ []) ≡ number xs * 10
  number-zero = number_after-append 0 xs (48 ∷ []) ∙ omega arith

-- another digit
module _ (xs : List ℕ) (c : ℕ) (other : c ≢ 48) where
  no-zeros : zeros_behind (c ∷ []) ≡ 0
  no-zeros = let e : eqb c 48 ≡ false = grind (arith, nat_tests) in ap (λ (b : Bool). cond b (1 + 0) 0) e

  zeros-other : zeros_behind (xs ++ c ∷ []) ≡ 0
  zeros-other = zeros-some xs (c ∷ []) (let e = no-zeros in omega arith) ∙ no-zeros

  significant-other : significant (xs ++ c ∷ []) ≡ xs ++ c ∷ []
  significant-other = sym (significant-some xs (c ∷ []) 0 (sym no-zeros) (omega arith))

-- ---- the digits, without the zeros at their end

abbrev Splits : List ℕ → Type 0
Splits digits = number digits ≡ number (significant digits) * 10 ^ zeros_behind digits

split-more : (xs : List ℕ) (c : ℕ) → Splits xs → Splits (xs ++ c ∷ [])
split-more xs c h =
    elim (cases_eq c 48) as (λ _. Splits (xs ++ c ∷ [])) [
      | inl is ↦ subst (λ (k : ℕ). Splits (xs ++ k ∷ [])) (sym is) (by_zero xs h)
      | inr other ↦ by_other xs c other
    ]
  where
    times_ten : (n m z : ℕ) → n ≡ m * 10 ^ z → n * 10 ≡ m * 10 ^ (1 + z)
    times_ten n m z e =
        let p : 10 ^ (1 + z) ≡ 10 ^ 1 * 10 ^ z = pow-add 10 1 z in
        let q : 10 ^ 1 ≡ 10 = refl in
        ap (λ (k : ℕ). k * 10) e ∙ omega arith ∙ ap (λ (k : ℕ). m * k) (ap (λ (k : ℕ). k * 10 ^ z) (sym q) ∙ sym p)

    by_zero : (xs : List ℕ) → Splits xs → Splits (xs ++ 48 ∷ [])
    by_zero xs h = number-zero xs ∙ times_ten _ _ _ h ∙ ap₂ (λ (ds : List ℕ) (z : ℕ). number ds * 10 ^ z) (sym (significant-zero xs)) (sym (zeros-zero xs))

    by_other : (xs : List ℕ) (c : ℕ) → c ≢ 48 → Splits (xs ++ c ∷ [])
    by_other xs c other = sym (mul-one (number (xs ++ c ∷ []))) ∙ ap₂ (λ (ds : List ℕ) (z : ℕ). number ds * 10 ^ z) (sym (significant-other xs c other)) (sym (zeros-other xs c other))

last_apart : (k : ℕ) (ds : List ℕ) → length ds ≡ suc k → ds ≡ take k ds ++ get_or ds k 0 ∷ []
last_apart k ds len = sym (take_all (k + 1) ds (omega arith)) ∙ take_more ds k 0 (omega arith)

split-by : (k : ℕ) (ds : List ℕ) → length ds ≡ k → Splits ds
split-by zero [] len = refl
split-by zero (c ∷ ds) len = absurd (omega arith)
split-by (suc k) ds len = subst Splits (sym (last_apart k ds len)) (split-more (take k ds) (get_or ds k 0) (split-by k (take k ds) (length-take-le k ds (omega arith))))

pub split : IsSplit
split digits = split-by (length digits) digits refl

abbrev DigitsOnly : List ℕ → Type 0
DigitsOnly ds = (i : ℕ) → i < length ds → is_ascii_digit (get_or ds i 0) ≡ true

abbrev EndsInNoZero : List ℕ → Type 0
EndsInNoZero ds = number ds ≢ 0 → number (significant ds) % 10 ≢ 0

no-zero-more : (xs : List ℕ) (c : ℕ) → is_ascii_digit c ≡ true → EndsInNoZero xs → EndsInNoZero (xs ++ c ∷ [])
no-zero-more xs c digit h =
    elim (cases_eq c 48) as (λ _. EndsInNoZero (xs ++ c ∷ [])) [
      | inl is ↦ subst (λ (k : ℕ). EndsInNoZero (xs ++ k ∷ [])) (sym is) (by_zero xs h)
      | inr other ↦ by_other xs c digit other
    ]
  where
    by_zero : (xs : List ℕ) → EndsInNoZero xs → EndsInNoZero (xs ++ 48 ∷ [])
    by_zero xs h = λ some divides.
        h (λ none. some (number-zero xs ∙ ap (λ (k : ℕ). k * 10) none)) (ap (λ (ds : List ℕ). number ds % 10) (sym (significant-zero xs)) ∙ divides)

    by_other : (xs : List ℕ) (c : ℕ) → is_ascii_digit c ≡ true → c ≢ 48 → EndsInNoZero (xs ++ c ∷ [])
    by_other xs c digit other = λ some divides.
        (let b = digit-bounds c digit in
        let n : number (xs ++ c ∷ []) ≡ number xs * 10 + (c - 48) = number_after-append 0 xs (c ∷ []) in
        let rest : number (significant (xs ++ c ∷ [])) % 10 ≡ c - 48 = ap (λ (ds : List ℕ). number ds % 10) (significant-other xs c other)
        ∙ ap (λ (k : ℕ). k % 10) n ∙ mod-mul-add (number xs) 10 (c - 48) (omega arith) in
        other (let z : c - 48 ≡ 0 = sym rest ∙ divides in omega arith))

no-zero-by : (k : ℕ) (ds : List ℕ) → length ds ≡ k → DigitsOnly ds → EndsInNoZero ds
no-zero-by zero [] len all = λ some divides. some refl
no-zero-by zero (c ∷ ds) len all = absurd (omega arith)
no-zero-by (suc k) ds len all =
    let flen : length (take k ds) ≡ k = length-take-le k ds (omega arith) in
    subst EndsInNoZero (sym (last_apart k ds len))
    (no-zero-more (take k ds) (get_or ds k 0) (all k (omega arith))
    (no-zero-by k (take k ds) flen (λ i lt. ap is_ascii_digit (get_or-take k ds i 0 (omega arith)) ∙ all i (omega arith))))

pub no-zero : HasNoZero
no-zero digits d = let l = digits-long digits d in no-zero-by (length digits) digits refl (λ i lt. digit-at digits i l.1 lt)

-- ---- the value

pub ratio_same : (a b c d : ℕ) → 0 < b → 0 < d → a * d ≡ c * b → ratio (pos a) b ≡ ratio (pos c) d
ratio_same a b c d p q e = same_is (ratio (pos a) b) (ratio (pos c) d) (pos a) (pos c) b d (is_ratio (pos a) b p) (is_ratio (pos c) d q) (ap pos e)

ten-pos : (n : ℕ) → 0 < 10 ^ n
ten-pos n = one-le-pow n 10 (lit< tt)

ok-is : (p q : ℕ × ℕ) → (let a : Result (ℕ × ℕ) NumeralError = Ok p in a) ≡ Ok q → p ≡ q
ok-is p q e = cc

not_ok : (q : ℕ × ℕ) → (let a : Result (ℕ × ℕ) NumeralError = Err Large in a) ≡ Ok q → ⊥
not_ok q e = cc

-- what `scaled` gave, by the case that it took
data Scaled (d up down : ℕ) (p : ℕ × ℕ) : Type 0 where
  is_zero : d ≡ 0 → (0, 1) ≡ p → Scaled d up down p
  is_below : d ≤ limit → down ≤ up + 36 → up < down → (d, 10 ^ (down - up)) ≡ p → Scaled d up down p
  is_whole : down ≤ up → d * 10 ^ (up - down) ≤ limit → (d * 10 ^ (up - down), 1) ≡ p → Scaled d up down p

scaled-case : (d up down : ℕ) (p : ℕ × ℕ) → scaled d up down ≡ Ok p → Scaled d up down p
scaled-case d up down p e =
    elim (chosen (eqb d 0) (Ok (0, 1)) (cond (ltb limit d || ltb (up + 36) down) (Err Large)
    (cond (ltb up down) (Ok (d, 10 ^ (down - up))) (cond (ltb limit (d * 10 ^ (up - down))) (Err Large) (Ok (d * 10 ^ (up - down), 1))))) (Ok p) e) as (λ _. Scaled d up down p) [
      | inl m ↦ is_zero (eqb-is d 0 m.0) (ok-is (0, 1) p m.1)
      | inr m ↦ elim (chosen (ltb limit d || ltb (up + 36) down) (Err Large)
          (cond (ltb up down) (Ok (d, 10 ^ (down - up))) (cond (ltb limit (d * 10 ^ (up - down))) (Err Large) (Ok (d * 10 ^ (up - down), 1)))) (Ok p) m.1)
          as (λ _. Scaled d up down p) [
            | inl k ↦ absurd (not_ok p k.1)
            | inr k ↦ elim (chosen (ltb up down) (Ok (d, 10 ^ (down - up))) (cond (ltb limit (d * 10 ^ (up - down))) (Err Large) (Ok (d * 10 ^ (up - down), 1))) (Ok p) k.1)
                as (λ _. Scaled d up down p) [
                  | inl j ↦ is_below (fits d up down k.0) (near d up down k.0) (less up down j.0) (ok-is (d, 10 ^ (down - up)) p j.1)
                  | inr j ↦ elim (chosen (ltb limit (d * 10 ^ (up - down))) (Err Large) (Ok (d * 10 ^ (up - down), 1)) (Ok p) j.1) as (λ _. Scaled d up down p) [
                    | inl i ↦ absurd (not_ok p i.1)
                    | inr i ↦ is_whole (not_less up down j.0) (not_less limit (d * 10 ^ (up - down)) i.0) (ok-is (d * 10 ^ (up - down), 1) p i.1)
                  ]
                ]
          ]
    ]
  where
    fits : (d up down : ℕ) → (ltb limit d || ltb (up + 36) down) ≡ false → d ≤ limit
    fits d up down e = grind (arith, nat_tests)

    near : (d up down : ℕ) → (ltb limit d || ltb (up + 36) down) ≡ false → down ≤ up + 36
    near d up down e = grind (arith, nat_tests)

    less : (a b : ℕ) → ltb a b ≡ true → a < b
    less a b e = grind (arith, nat_tests)

    not_less : (a b : ℕ) → ltb a b ≡ false → b ≤ a
    not_less a b e = grind (arith, nat_tests)

scaled-value : (d up down : ℕ) (p : ℕ × ℕ) → scaled d up down ≡ Ok p → ratio (pos p.0) p.1 ≡ ratio (pos (d * 10 ^ up)) (10 ^ down)
scaled-value d up down p e = by (scaled-case d up down p e)
  where
    by : Scaled d up down p → ratio (pos p.0) p.1 ≡ ratio (pos (d * 10 ^ up)) (10 ^ down)
    by (is_zero z is) =
        ap (λ (q : ℕ × ℕ). ratio (pos q.0) q.1) (sym is)
        ∙ ratio_same 0 1 (d * 10 ^ up) (10 ^ down) (lit< tt) (ten-pos down) (let f : d * 10 ^ up ≡ 0 * 10 ^ up = ap (λ (k : ℕ). k * 10 ^ up) z in omega (arith, f))
    by (is_below fits near lt is) =
        let f : 10 ^ down ≡ 10 ^ up * 10 ^ (down - up) = (let g : down ≡ up + (down - up) = omega arith in ap (λ (k : ℕ). 10 ^ k) g ∙ pow-add 10 up (down - up)) in
        ap (λ (q : ℕ × ℕ). ratio (pos q.0) q.1) (sym is)
        ∙ ratio_same d (10 ^ (down - up)) (d * 10 ^ up) (10 ^ down) (ten-pos (down - up)) (ten-pos down) (ap (λ (k : ℕ). d * k) f ∙ omega arith)
    by (is_whole le fits is) =
        let f : 10 ^ up ≡ 10 ^ (up - down) * 10 ^ down = (let g : up ≡ (up - down) + down = omega arith in ap (λ (k : ℕ). 10 ^ k) g ∙ pow-add 10 (up - down) down) in
        ap (λ (q : ℕ × ℕ). ratio (pos q.0) q.1) (sym is)
        ∙ ratio_same (d * 10 ^ (up - down)) 1 (d * 10 ^ up) (10 ^ down) (lit< tt) (ten-pos down) (omega arith ∙ ap (λ (k : ℕ). d * k * 1) (sym f))

decimal-is : (whole places : List ℕ) (negative : Bool) (exponent : List ℕ) (p : ℕ × ℕ) → decimal_terms whole places negative exponent ≡ Ok p
    → ratio (pos p.0) p.1 ≡ decimal_value whole places negative exponent
decimal-is whole places false exponent p e =
    let digits = whole ++ places in
    let m = split (whole ++ places) in
    let up : ℕ = number exponent + zeros_behind (whole ++ places) in
    let f : number (significant (whole ++ places)) * 10 ^ up ≡ number (whole ++ places) * 10 ^ number exponent =
    (let g : 10 ^ (number exponent + zeros_behind (whole ++ places)) ≡ 10 ^ number exponent * 10 ^ zeros_behind (whole ++ places) = pow-add 10 (number exponent) (zeros_behind (whole ++ places)) in
    ap (λ (k : ℕ). number (significant (whole ++ places)) * k) g ∙ omega arith ∙ ap (λ (k : ℕ). k * 10 ^ number exponent) (sym m)) in
    scaled-value (number (significant (whole ++ places))) up (0 + length places) p e
    ∙ ap₂ (λ (a b : ℕ). ratio (pos a) (10 ^ b)) f (omega arith)
decimal-is whole places true exponent p e =
    let m = split (whole ++ places) in
    scaled-value (number (significant (whole ++ places))) (0 + zeros_behind (whole ++ places)) (number exponent + length places) p e
    ∙ ap₂ (λ (a b : ℕ). ratio (pos a) (10 ^ b)) (ap (λ (k : ℕ). number (significant (whole ++ places)) * 10 ^ k) (omega arith) ∙ sym m) (omega arith)

quotient-case : (a b : ℕ) (p : ℕ × ℕ) → quotient_terms a b ≡ Ok p → (0 < b) × (a ≤ limit) × (b ≤ limit) × ((a, b) ≡ p)
quotient-case a b p e =
    elim (chosen (eqb b 0) (Err ZeroDen) (cond (ltb limit a || ltb limit b) (Err Large) (Ok (a, b))) (Ok p) e) [
      | inl m ↦ absurd cc
      | inr m ↦ elim (chosen (ltb limit a || ltb limit b) (Err Large) (Ok (a, b)) (Ok p) m.1) [
        | inl k ↦ absurd (not_ok p k.1)
        | inr k ↦ (some b m.0, fits_a a b k.0, fits_b a b k.0, ok-is (a, b) p k.1)
      ]
    ]
  where
    some : (b : ℕ) → eqb b 0 ≡ false → 0 < b
    some b e = grind (arith, nat_tests)

    fits_a : (a b : ℕ) → (ltb limit a || ltb limit b) ≡ false → a ≤ limit
    fits_a a b e = grind (arith, nat_tests)

    fits_b : (a b : ℕ) → (ltb limit a || ltb limit b) ≡ false → b ≤ limit
    fits_b a b e = grind (arith, nat_tests)

terms-meant : (parts : Parts) (p : ℕ × ℕ) → terms_of (Some parts) ≡ Ok p → ratio (pos p.0) p.1 ≡ meaning parts
terms-meant (Decimal whole places negative exponent) p e = decimal-is whole places negative exponent p e
terms-meant (Quotient over under) p e = ap (λ (q : ℕ × ℕ). ratio (pos q.0) q.1) (sym (quotient-case (number over) (number under) p e).3)

value-case : (r : Result (ℕ × ℕ) NumeralError) (x : ℚ) → value_of r ≡ Ok x → (p : ℕ × ℕ) × (r ≡ Ok p) × (x ≡ ratio (pos p.0) p.1)
value-case (Ok p) x e = (p, refl, cc)
value-case (Err k) x e = absurd cc

pub meant : IsMeant
unfolding numeral_of
meant text parts x s e =
    let v = value-case (terms_of (parts_of text)) x e in
    v.2 ∙ terms-meant parts v.0 (ap terms_of (sym (complete text parts s)) ∙ v.1)

-- ---- the shape

-- parts that were read are never refused for their shape
scaled-no_shape : (d up down : ℕ) → scaled d up down ≡ Err Shape → ⊥
scaled-no_shape d up down e =
    elim (chosen (eqb d 0) (Ok (0, 1)) (cond (ltb limit d || ltb (up + 36) down) (Err Large)
    (cond (ltb up down) (Ok (d, 10 ^ (down - up))) (cond (ltb limit (d * 10 ^ (up - down))) (Err Large) (Ok (d * 10 ^ (up - down), 1))))) (Err Shape) e) [
      | inl m ↦ absurd cc
      | inr m ↦ elim (chosen (ltb limit d || ltb (up + 36) down) (Err Large)
          (cond (ltb up down) (Ok (d, 10 ^ (down - up))) (cond (ltb limit (d * 10 ^ (up - down))) (Err Large) (Ok (d * 10 ^ (up - down), 1)))) (Err Shape) m.1) [
            | inl k ↦ absurd (other k.1)
            | inr k ↦ elim (chosen (ltb up down) (Ok (d, 10 ^ (down - up))) (cond (ltb limit (d * 10 ^ (up - down))) (Err Large) (Ok (d * 10 ^ (up - down), 1))) (Err Shape) k.1) [
              | inl j ↦ absurd cc
              | inr j ↦ elim (chosen (ltb limit (d * 10 ^ (up - down))) (Err Large) (Ok (d * 10 ^ (up - down), 1)) (Err Shape) j.1) [
                | inl i ↦ absurd (other i.1)
                | inr i ↦ absurd cc
              ]
            ]
          ]
    ]
  where
    other : (let a : Result (ℕ × ℕ) NumeralError = Err Large in a) ≡ Err Shape → ⊥
    other e = cc

quotient-no_shape : (a b : ℕ) → quotient_terms a b ≡ Err Shape → ⊥
quotient-no_shape a b e =
    elim (chosen (eqb b 0) (Err ZeroDen) (cond (ltb limit a || ltb limit b) (Err Large) (Ok (a, b))) (Err Shape) e) [
      | inl m ↦ absurd (other ZeroDen m.1 (λ same. cc))
      | inr m ↦ elim (chosen (ltb limit a || ltb limit b) (Err Large) (Ok (a, b)) (Err Shape) m.1) [
        | inl k ↦ absurd (other Large k.1 (λ same. cc))
        | inr k ↦ absurd cc
      ]
    ]
  where
    other : (k : NumeralError) → (let a : Result (ℕ × ℕ) NumeralError = Err k in a) ≡ Err Shape → (k ≡ Shape → ⊥) → ⊥
    other k e h = h cc

parts-no_shape : (parts : Parts) → terms_of (Some parts) ≡ Err Shape → ⊥
parts-no_shape (Decimal whole places negative exponent) e =
    let d : ℕ = number (significant (whole ++ places)) in
    let up : ℕ = cond negative 0 (number exponent) + zeros_behind (whole ++ places) in
    let down : ℕ = cond negative (number exponent) 0 + length places in
    scaled-no_shape d up down e
parts-no_shape (Quotient over under) e = quotient-no_shape (number over) (number under) e

value-refused : (r : Result (ℕ × ℕ) NumeralError) → value_of r ≡ Err Shape → r ≡ Err Shape
value-refused (Ok p) e = absurd cc
value-refused (Err k) e = cc

pub refused-by_shape : IsRefusedByShape
unfolding numeral_of
refused-by_shape text = (
  λ e parts s. parts-no_shape parts (ap terms_of (sym (complete text parts s)) ∙ value-refused (terms_of (parts_of text)) e),
  λ none. by (parts_of text) refl none,
)
  where
    by : (o : Option Parts) → parts_of text ≡ o → ((parts : Parts) → Spells parts text → ⊥) → value_of (terms_of (parts_of text)) ≡ Err Shape
    by None e none = ap (λ (o : Option Parts). value_of (terms_of o)) e
    by (Some parts) e none = absurd (none parts (sound text parts e))

-- ---- the terms are within the limit

scaled-within : (d up down : ℕ) (p : ℕ × ℕ) → Scaled d up down p → AreWithinLimit p
scaled-within d up down p (is_zero z is) = subst AreWithinLimit is (record { num = omega arith; den = lit< tt; some = lit< tt })
scaled-within d up down p (is_below fits near lt is) = subst AreWithinLimit is (record { num = fits; den = ten-le (down - up) (omega arith); some = ten-pos (down - up) })
scaled-within d up down p (is_whole le fits is) = subst AreWithinLimit is (record { num = fits; den = lit< tt; some = lit< tt })

terms-within : (o : Option Parts) (p : ℕ × ℕ) → terms_of o ≡ Ok p → AreWithinLimit p
terms-within None p e = absurd cc
terms-within (Some (Decimal whole places negative exponent)) p e =
    let d : ℕ = number (significant (whole ++ places)) in
    let up : ℕ = cond negative 0 (number exponent) + zeros_behind (whole ++ places) in
    let down : ℕ = cond negative (number exponent) 0 + length places in
    scaled-within d up down p (scaled-case d up down p e)
terms-within (Some (Quotient over under)) p e =
    let q = quotient-case (number over) (number under) p e in
    subst AreWithinLimit q.3 (record { num = q.1; den = q.2; some = q.0 })

pub terms-all_within : (o : Option Parts) (r : Result (ℕ × ℕ) NumeralError) → r ≡ terms_of o → IfOk r AreWithinLimit
terms-all_within o (Ok p) e = terms-within o p (sym e)
terms-all_within o (Err k) e = tt

pub value-within : (p : ℕ × ℕ) → AreWithinLimit p → IsWithinLimit (ratio (pos p.0) p.1)
value-within p h = record {
  nonnegative = ratio-nonneg p.0 p.1 h.some;
  num = (let e : unsigned_abs (ℚ.num (ratio (pos p.0) p.1)) ≡ p.0 / gcd p.0 p.1 = ap unsigned_abs (num-ratio_signed false p.0 p.1 h.some) in omega (arith, e, div-le_self p.0 (gcd p.0 p.1), h.num));
  den = omega (arith, den-ratio_signed false p.0 p.1 h.some, div-le_self p.1 (gcd p.0 p.1), h.den);
}
