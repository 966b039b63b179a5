-- The parts of a numeral against its grammar.
use Rattle.std.proofs.Common.{◌≡◌, ℕ, suc, ◌+◌, ◌<◌, ◌⊎◌, inl, inr, Bool, true, false, cond, ltb, eqb, ◌||◌}
use Rattle.std.proofs.Common.{List, [], ◌∷◌, ◌++◌, length, take, Option, Some, None, refl, sym, ap, subst, ◌∙◌, arith}
use Rattle.std.proofs.{lemmas.List.{take_at, drop_at, take-append-drop}, lemmas.List.Folds.{prefix_len-append, length-prefix_len}}
use Rattle.std.proofs.lemmas.Bool.Decides.{nat_tests}
use Rattle.std.specs.{Char.{is_ascii_digit}, List.{prefix_len}}
use Rattle.mdp_num.specs.Digits.{is_digits, front_digits, behind_digits}
use Rattle.mdp_num.specs.Numeral.{Parts, Decimal, Quotient, digits_or_none, signed_digits, exponent_of, decimal_parts, parts_behind, parts_of}
use Rattle.mdp_num.specs.Grammar.{IsDigits, IsSign, IsExponent, Spells, IsSound, IsComplete}

-- ---- digits at the front

prefix-front : (p : ℕ → Bool) (xs : List ℕ) → prefix_len p (take (prefix_len p xs) xs) ≡ prefix_len p xs
prefix-front p [] = refl
prefix-front p (x ∷ xs) = by (p x) refl (prefix-front p xs)
  where
    by : (b : Bool) → p x ≡ b → prefix_len p (take (prefix_len p xs) xs) ≡ prefix_len p xs → prefix_len p (take (cond b (1 + prefix_len p xs) 0) (x ∷ xs)) ≡ cond b (1 + prefix_len p xs) 0
    by true e rest =
        let s : 1 + prefix_len p xs ≡ suc (prefix_len p xs) = omega arith in
        ap (λ (n : ℕ). prefix_len p (take n (x ∷ xs))) s ∙ ap (λ (b : Bool). cond b (1 + prefix_len p (take (prefix_len p xs) xs)) 0) e ∙ ap (λ (n : ℕ). 1 + n) rest
    by false e rest = refl

front-digits : (bytes : List ℕ) → ltb 0 (length (front_digits bytes)) ≡ true → IsDigits (front_digits bytes)
front-digits bytes some = let n = prefix-front is_ascii_digit bytes in let l = length-prefix_len is_ascii_digit bytes in grind (arith, nat_tests)

pub digits-long : (w : List ℕ) → IsDigits w → (0 < length w) × (prefix_len is_ascii_digit w ≡ length w)
digits-long w d = grind (arith, nat_tests)

-- digits, and bytes behind them that don't begin with one
module _ (w rest : List ℕ) (d : IsDigits w) (stop : prefix_len is_ascii_digit rest ≡ 0) where
  pub prefix-is : prefix_len is_ascii_digit (w ++ rest) ≡ length w
  prefix-is = let l = digits-long w d in let a = prefix_len-append is_ascii_digit w rest in grind (arith, nat_tests)

  pub front-is : front_digits (w ++ rest) ≡ w
  front-is = take_at w rest (prefix_len is_ascii_digit (w ++ rest)) (sym prefix-is)

  pub behind-is : behind_digits (w ++ rest) ≡ rest
  behind-is = drop_at w rest (prefix_len is_ascii_digit (w ++ rest)) (sym prefix-is)

-- ---- sound

pub cond-some : {A : Type 0} (b : Bool) (x y : A) → cond b (Some x) None ≡ Some y → (b ≡ true) × (x ≡ y)
cond-some true x y e = (refl, cc)
cond-some false x y e = absurd cc

or-cases : (a b : Bool) → (a || b) ≡ true → (a ≡ true) ⊎ (b ≡ true)
or-cases true b e = inl refl
or-cases false b e = inr e

pub eqb-is : (a b : ℕ) → eqb a b ≡ true → a ≡ b
eqb-is a b e = grind (arith, nat_tests)

-- what a chain of tests chose
pub chosen : {A : Type 0} (b : Bool) (x y z : A) → cond b x y ≡ z → ((b ≡ true) × (x ≡ z)) ⊎ ((b ≡ false) × (y ≡ z))
chosen true x y z e = inl (refl, e)
chosen false x y z e = inr (refl, e)

digits-given : (negative n : Bool) (bytes ds : List ℕ) → digits_or_none negative bytes ≡ Some (n, ds) → IsDigits bytes × (negative ≡ n) × (bytes ≡ ds)
digits-given negative n bytes ds e = let c = cond-some (is_digits bytes) (negative, bytes) (n, ds) e in (c.0, ap (λ (p : Bool × List ℕ). p.0) c.1, ap (λ (p : Bool × List ℕ). p.1) c.1)

abbrev IsSigned : Bool → List ℕ → List ℕ → Type 0
IsSigned n ds bytes = (sign : List ℕ) × IsSign n sign × IsDigits ds × (bytes ≡ sign ++ ds)

signed-sound : (bytes : List ℕ) (n : Bool) (ds : List ℕ) → signed_digits bytes ≡ Some (n, ds) → IsSigned n ds bytes
signed-sound [] n ds e = absurd cc
signed-sound (c ∷ bytes) n ds e =
    elim (chosen (eqb c 45) (digits_or_none true bytes) (cond (eqb c 43) (digits_or_none false bytes) (digits_or_none false (c ∷ bytes))) (Some (n, ds)) e) [
      | inl m ↦
          let g = digits-given true n bytes ds m.1 in
          (45 ∷ [], subst (λ (b : Bool). IsSign b (45 ∷ [])) g.1 refl, subst (λ (xs : List ℕ). IsDigits xs) g.2 g.0, ap (λ (x : ℕ). x ∷ bytes) (eqb-is c 45 m.0) ∙ ap (λ (xs : List ℕ). 45 ∷ xs) g.2)
      | inr m ↦ elim (chosen (eqb c 43) (digits_or_none false bytes) (digits_or_none false (c ∷ bytes)) (Some (n, ds)) m.1) [
        | inl k ↦
            let g = digits-given false n bytes ds k.1 in (
              43 ∷ [],
              subst (λ (b : Bool). IsSign b (43 ∷ [])) g.1 (inr refl),
              subst (λ (xs : List ℕ). IsDigits xs) g.2 g.0,
              ap (λ (x : ℕ). x ∷ bytes) (eqb-is c 43 k.0)
                  ∙ ap (λ (xs : List ℕ). 43 ∷ xs) g.2,
            )
        | inr k ↦
            let g = digits-given false n (c ∷ bytes) ds k.1 in
            ([], subst (λ (b : Bool). IsSign b []) g.1 (inl refl), subst (λ (xs : List ℕ). IsDigits xs) g.2 g.0, g.2)
      ]
    ]

abbrev one : Bool × List ℕ → Option (Bool × List ℕ)
one x = Some x

some-is : (x y : Bool × List ℕ) → one x ≡ one y → x ≡ y
some-is x y e = cc

exponent-sound : (bytes : List ℕ) (n : Bool) (ds : List ℕ) → exponent_of bytes ≡ Some (n, ds) → IsExponent n ds bytes
exponent-sound [] n ds e = let p : (false, []) ≡ (n, ds) = some-is (false, []) (n, ds) e in inl (sym (ap (λ (p : Bool × List ℕ). p.0) p), sym (ap (λ (p : Bool × List ℕ). p.1) p), refl)
exponent-sound (c ∷ bytes) n ds e =
    elim (chosen (eqb c 101 || eqb c 69) (signed_digits bytes) None (Some (n, ds)) e) [
      | inl m ↦
          let g = signed-sound bytes n ds m.1 in
          inr (c, g.0, elim (or-cases (eqb c 101) (eqb c 69) m.0) [ inl a ↦ inl (eqb-is c 101 a) | inr a ↦ inr (eqb-is c 69 a) ], g.1, g.2, ap (λ (xs : List ℕ). c ∷ xs) g.3)
      | inr m ↦ absurd cc
    ]

decimal-sound : (whole places : List ℕ) (o : Option (Bool × List ℕ)) (parts : Parts) → decimal_parts whole places o ≡ Some parts
    → (x : Bool × List ℕ) × (o ≡ Some x) × (Decimal whole places x.0 x.1 ≡ parts)
decimal-sound whole places None parts e = absurd cc
decimal-sound whole places (Some x) parts e = (x, refl, cc)

behind-sound : (whole bytes : List ℕ) (parts : Parts) → IsDigits whole → parts_behind whole bytes ≡ Some parts → Spells parts (whole ++ bytes)
behind-sound whole [] parts d e =
    let p : Decimal whole [] false [] ≡ parts = cc in
    subst (λ (q : Parts). Spells q (whole ++ [])) p ([], [], d, inl (refl, refl), inl (refl, refl, refl), refl)
behind-sound whole (c ∷ bytes) parts d e =
    elim (chosen (eqb c 47) (cond (is_digits bytes) (Some (Quotient whole bytes)) None)
    (cond (eqb c 46) (cond (ltb 0 (length (front_digits bytes))) (decimal_parts whole (front_digits bytes) (exponent_of (behind_digits bytes))) None)
    (decimal_parts whole [] (exponent_of (c ∷ bytes)))) (Some parts) e) [
      | inl m ↦
          let g = cond-some (is_digits bytes) (Quotient whole bytes) parts m.1 in
          subst (λ (q : Parts). Spells q (whole ++ c ∷ bytes)) g.1 (d, g.0, ap (λ (x : ℕ). whole ++ x ∷ bytes) (eqb-is c 47 m.0))
      | inr m ↦ elim (chosen (eqb c 46) (cond (ltb 0 (length (front_digits bytes))) (decimal_parts whole (front_digits bytes) (exponent_of (behind_digits bytes))) None)
          (decimal_parts whole [] (exponent_of (c ∷ bytes))) (Some parts) m.1) [
            | inl k ↦ elim (chosen (ltb 0 (length (front_digits bytes))) (decimal_parts whole (front_digits bytes) (exponent_of (behind_digits bytes))) None (Some parts) k.1) [
              | inl j ↦
                  let g = decimal-sound whole (front_digits bytes) (exponent_of (behind_digits bytes)) parts j.1 in
                  subst (λ (q : Parts). Spells q (whole ++ c ∷ bytes)) g.2 (
                    46 ∷ front_digits bytes,
                    behind_digits bytes,
                    d,
                    inr (front-digits bytes j.0, refl),
                    exponent-sound (behind_digits bytes) g.0.0 g.0.1 g.1,
                    ap (λ (x : ℕ). whole ++ x ∷ bytes) (eqb-is c 46 k.0) ∙ ap (λ (xs : List ℕ). whole ++ 46 ∷ xs) (sym (take-append-drop (prefix_len is_ascii_digit bytes) bytes)),
                  )
              | inr j ↦ absurd cc
            ]
            | inr k ↦
                let g = decimal-sound whole [] (exponent_of (c ∷ bytes)) parts k.1 in
                subst (λ (q : Parts). Spells q (whole ++ c ∷ bytes)) g.2 ([], c ∷ bytes, d, inl (refl, refl), exponent-sound (c ∷ bytes) g.0.0 g.0.1 g.1, refl)
          ]
    ]

pub sound : IsSound
unfolding parts_of
sound text parts e =
    elim (chosen (ltb 0 (length (front_digits text))) (parts_behind (front_digits text) (behind_digits text)) None (Some parts) e) [
      | inl m ↦ subst (λ (xs : List ℕ). Spells parts xs) (take-append-drop (prefix_len is_ascii_digit text) text)
          (behind-sound (front_digits text) (behind_digits text) parts (front-digits text m.0) m.1)
      | inr m ↦ absurd cc
    ]

-- ---- complete

given-digits : (negative : Bool) (ds : List ℕ) → IsDigits ds → digits_or_none negative ds ≡ Some (negative, ds)
given-digits negative ds d = ap (λ (b : Bool). cond b (Some (negative, ds)) None) d

-- digits begin with a digit
pub digit-first : (c : ℕ) (cs : List ℕ) → IsDigits (c ∷ cs) → is_ascii_digit c ≡ true
digit-first c cs d = by (is_ascii_digit c) refl
  where
    by : (b : Bool) → is_ascii_digit c ≡ b → is_ascii_digit c ≡ true
    by true e = e
    by false e = let l = digits-long (c ∷ cs) d in let n : prefix_len is_ascii_digit (c ∷ cs) ≡ 0 = ap (λ (b : Bool). cond b (1 + prefix_len is_ascii_digit cs) 0) e in absurd (omega (arith, l.1, n))

unsigned : (ds : List ℕ) → IsDigits ds → signed_digits ds ≡ Some (false, ds)
unsigned [] d = absurd cc
unsigned (c ∷ cs) d =
    let digit = digit-first c cs d in
    let minus : eqb c 45 ≡ false = grind (arith, nat_tests) in
    let plus : eqb c 43 ≡ false = grind (arith, nat_tests) in
    ap (λ (b : Bool). cond b (digits_or_none true cs) (cond (eqb c 43) (digits_or_none false cs) (digits_or_none false (c ∷ cs)))) minus
    ∙ ap (λ (b : Bool). cond b (digits_or_none false cs) (digits_or_none false (c ∷ cs))) plus ∙ given-digits false (c ∷ cs) d

signed-complete : (n : Bool) (sign ds : List ℕ) → IsSign n sign → IsDigits ds → signed_digits (sign ++ ds) ≡ Some (n, ds)
signed-complete true sign ds s d = rw s (given-digits true ds d)
signed-complete false sign ds s d =
    elim s [
      | inl e ↦ rw e (unsigned ds d)
      | inr e ↦ rw e (given-digits false ds d)
    ]

exponent-complete : (n : Bool) (ds text : List ℕ) → IsExponent n ds text → exponent_of text ≡ Some (n, ds)
exponent-complete n ds text x =
    elim x [
      | inl e ↦ rw (e.0, e.1, e.2) refl
      | inr e ↦ rw e.5 (by e.0 (e.1 ++ ds) e.2 ∙ signed-complete n e.1 ds e.3 e.4)
    ]
  where
    by : (mark : ℕ) (rest : List ℕ) → (mark ≡ 101) ⊎ (mark ≡ 69) → exponent_of (mark ∷ rest) ≡ signed_digits rest
    by mark rest (inl e) = rw e refl
    by mark rest (inr e) = rw e refl

-- what may follow digits doesn't begin with one
no-digit : (n : Bool) (ds text : List ℕ) → IsExponent n ds text → prefix_len is_ascii_digit text ≡ 0
no-digit n ds text x =
    elim x [
      | inl e ↦ rw e.2 refl
      | inr e ↦ elim e.2 [ inl m ↦ rw (e.5, m) refl | inr m ↦ rw (e.5, m) refl ]
    ]

front-some : (w : List ℕ) → IsDigits w → ltb 0 (length w) ≡ true
front-some w d = let l = digits-long w d in grind (arith, nat_tests)

-- behind the digits of the whole part
parts-read : (w rest : List ℕ) (parts : Parts) → IsDigits w → prefix_len is_ascii_digit rest ≡ 0 → parts_behind w rest ≡ Some parts → parts_of (w ++ rest) ≡ Some parts
unfolding parts_of
parts-read w rest parts d stop e =
    rw (front-is w rest d stop, behind-is w rest d stop, front-some w d) e

point-complete : (w p tail : List ℕ) (n : Bool) (ds : List ℕ) → IsDigits p → IsExponent n ds tail → parts_behind w (46 ∷ (p ++ tail)) ≡ Some (Decimal w p n ds)
point-complete w p tail n ds d x =
    let stop = no-digit n ds tail x in
    rw (front-is p tail d stop, behind-is p tail d stop, front-some p d, exponent-complete n ds tail x) refl

plain-complete : (w tail : List ℕ) (n : Bool) (ds : List ℕ) → IsExponent n ds tail → parts_behind w tail ≡ Some (Decimal w [] n ds)
plain-complete w tail n ds x =
    elim x [
      | inl e ↦ rw (e.0, e.1, e.2) refl
      | inr e ↦ rw e.5 (by w e.0 (e.1 ++ ds) e.2 ∙ ap (decimal_parts w []) (sym (ap exponent_of e.5) ∙ exponent-complete n ds tail (inr e)))
    ]
  where
    by : (w : List ℕ) (mark : ℕ) (rest : List ℕ) → (mark ≡ 101) ⊎ (mark ≡ 69) → parts_behind w (mark ∷ rest) ≡ decimal_parts w [] (exponent_of (mark ∷ rest))
    by w mark rest (inl e) = rw e refl
    by w mark rest (inr e) = rw e refl

pub complete : IsComplete
complete text (Quotient over under) s =
    rw s.2 (parts-read over (47 ∷ under) (Quotient over under) s.0 refl (ap (λ (b : Bool). cond b (Some (Quotient over under)) None) s.1))
complete text (Decimal whole places n ds) s =
    rw s.5 (elim s.3 [
      | inl e ↦ rw (e.0, e.1) (parts-read whole s.1 (Decimal whole [] n ds) s.2 (no-digit n ds s.1 s.4) (plain-complete whole s.1 n ds s.4))
      | inr e ↦ rw e.1 (parts-read whole (46 ∷ (places ++ s.1)) (Decimal whole places n ds) s.2 refl (point-complete whole places s.1 n ds e.0 s.4))
    ])
