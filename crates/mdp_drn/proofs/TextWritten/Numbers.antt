-- Decimal texts and spellings of fractions, as they are read.
use Rattle.std.proofs.Common.{◌≡◌, ℕ, ◌+◌, ◌-◌, ◌*◌, ◌^◌, ◌<◌, ◌≤◌, zero, suc, Bool, true, false, cond, eqb, ltb, lt-ltb, ◌&&◌, List, [], ◌∷◌, ◌++◌, Some}
use Rattle.std.proofs.Common.{length, decimal, refl, sym, ap, ap₂, subst, ◌∙◌, arith, lit<, inl, inr, ℤ, pos, negsuc, neg_ℤ, unsigned_abs, ◌≤ℤ◌, Ok}
use Rattle.std.proofs.{lemmas.Bool.{cases_eq}, lemmas.Bool.Decides.{nat_tests}, lemmas.Fmt.{length-decimal-le_wide}, lemmas.Int.{ints}}
use Rattle.std.proofs.{lemmas.List.{append-nil, length-append}, Math.Nat.{mul-le-mul_left, one-le-pow}}
use Rattle.std.specs.{Char.{is_ascii_digit}, Fmt.{signed_decimal}, List.{list_all, prefix_len}}
use Rattle.mdp_math.specs.Rational.{ℚ, of_int, ratio, neg_ℚ}
use Rattle.mdp_math.proofs.{Laws.{ratio_self, den-pos, num-neg, den-neg}, Order.{nonneg}}
use Rattle.mdp_num.specs.{Digits.{number}, Grammar.{IsDigits}, Meaning.{IsWithinLimit}}
use Rattle.mdp_num.specs.Numeral.{Parts, Decimal, Quotient, limit, scaled, significant, zeros_behind, decimal_terms, quotient_terms, terms_of, parts_of, numeral_of}
use Rattle.mdp_num.specs.Value.{spelling}
use Rattle.mdp_num.specs.Numeral as numeral
use Rattle.mdp_num.proofs.{Plain.{decimal-plain, number-decimal}, Grammar.{complete}, Meaning.{split}, Scale.{scaled-whole}}
use Rattle.mdp_drn.specs.{Lines.{begins_with}, Values.{value_of, reward_of}}
use Rattle.mdp_rows.specs.Limits.{HasSmallTerms}
use Rattle.mdp_drn.proofs.TextWritten.Bytes.{Pass, and-parts, pass-append, pass-weaken, all-prefix}

-- ---- decimal texts

pub limit-wide : (n : ℕ) → n ≤ limit → n < 10 ^ 64
limit-wide n h = let p : limit < 10 ^ 64 = lit< tt in omega (arith, p)

pub record IsDecimal (text : List ℕ) : Type 0 where
  pub bytes : Pass is_ascii_digit text
  pub first : ℕ
  pub rest : List ℕ
  pub is : text ≡ first ∷ rest
  pub digit : is_ascii_digit first ≡ true

decimal-from : (text : List ℕ) → Pass is_ascii_digit text → 0 < length text → IsDecimal text
decimal-from [] h some = absurd (omega arith)
decimal-from (c ∷ cs) h some = record { bytes = h; first = c; rest = cs; is = refl; digit = (and-parts (is_ascii_digit c) (list_all is_ascii_digit cs) h).0 }

pub is-decimal : (n : ℕ) → n < 10 ^ 64 → IsDecimal (decimal n)
is-decimal n lt = let p = decimal-plain n lt in decimal-from (decimal n) (all-prefix is_ascii_digit (decimal n) p.digits) p.some

digits-from : (some : Bool) (p l : ℕ) → ltb 0 l ≡ true → p ≡ l → (ltb 0 l && eqb p l) ≡ true
digits-from some p l h e = grind (arith, nat_tests)

pub decimal-digits : (n : ℕ) → n < 10 ^ 64 → IsDigits (decimal n)
decimal-digits n lt = let p = decimal-plain n lt in digits-from true (prefix_len is_ascii_digit (decimal n)) (length (decimal n)) (lt-ltb 0 (length (decimal n)) p.some) p.digits

pub decimal-short : (n : ℕ) → n ≤ limit → length (decimal n) ≤ 37
decimal-short n h = let p : limit < 10 ^ 37 = lit< tt in length-decimal-le_wide 37 n (lit< tt) (omega (arith, p)) (limit-wide n h)

-- ---- the values of spellings

scaled-zero : (d up down : ℕ) → d ≡ 0 → scaled d up down ≡ Ok (0, 1)
scaled-zero d up down none = grind (arith, nat_tests)

ten-pos : (n : ℕ) → 0 < 10 ^ n
ten-pos n = one-le-pow n 10 (lit< tt)

scaled-by : (d z n : ℕ) → n ≡ d * 10 ^ z → n ≤ limit → scaled d (0 + z) (0 + 0) ≡ Ok (n, 1)
scaled-by d z n e h =
    elim (cases_eq d 0) [
      | inl none ↦ scaled-zero d (0 + z) (0 + 0) none ∙ ap (λ (k : ℕ). Ok (k, 1)) (sym (e ∙ ap (λ (k : ℕ). k * 10 ^ z) none ∙ omega arith))
      | inr some ↦
          let k : (0 + z) - (0 + 0) ≡ z = omega arith in
          let p : d * 10 ^ ((0 + z) - (0 + 0)) ≡ n = ap (λ (j : ℕ). d * 10 ^ j) k ∙ sym e in
          let one : d * 1 ≤ d * 10 ^ z = mul-le-mul_left d (ten-pos z) in
          scaled-whole d (0 + z) (0 + 0) some (omega (arith, one)) (omega arith) (omega (arith, p)) ∙ ap (λ (j : ℕ). Ok (j, 1)) p
    ]

whole-terms : (n : ℕ) → n ≤ limit → decimal_terms (decimal n) [] false [] ≡ Ok (n, 1)
whole-terms n h =
    let e : decimal n ++ [] ≡ decimal n = append-nil (decimal n) in
    ap (λ (ds : List ℕ). scaled (number (significant ds)) (0 + zeros_behind ds) (0 + 0)) e
    ∙ scaled-by (number (significant (decimal n))) (zeros_behind (decimal n)) n (sym (number-decimal n (limit-wide n h)) ∙ split (decimal n)) h

numeral-whole : (n : ℕ) → n ≤ limit → numeral_of (decimal n) ≡ Ok (ratio (pos n) 1)
unfolding numeral_of
numeral-whole n h =
    let d = decimal-digits n (limit-wide n h) in
    let s : parts_of (decimal n) ≡ Some (Decimal (decimal n) [] false []) =
    complete (decimal n) (Decimal (decimal n) [] false []) ([], [], d, inl (refl, refl), inl (refl, refl, refl), sym (append-nil (decimal n))) in
    ap (λ o. numeral.value_of (terms_of o)) s ∙ ap numeral.value_of (whole-terms n h)

quotient-kept : (a b : ℕ) → 0 < b → a ≤ limit → b ≤ limit → quotient_terms a b ≡ Ok (a, b)
quotient-kept a b p q r = grind (arith, nat_tests)

numeral-quotient : (n d : ℕ) → n ≤ limit → 0 < d → d ≤ limit → numeral_of (decimal n ++ 47 ∷ decimal d) ≡ Ok (ratio (pos n) d)
unfolding numeral_of
numeral-quotient n d h p k =
    let s : parts_of (decimal n ++ 47 ∷ decimal d) ≡ Some (Quotient (decimal n) (decimal d)) =
    complete (decimal n ++ 47 ∷ decimal d) (Quotient (decimal n) (decimal d)) (decimal-digits n (limit-wide n h), decimal-digits d (limit-wide d k), refl) in
    ap (λ o. numeral.value_of (terms_of o)) s
    ∙ ap₂ (λ (a b : ℕ). numeral.value_of (quotient_terms a b)) (number-decimal n (limit-wide n h)) (number-decimal d (limit-wide d k))
    ∙ ap numeral.value_of (quotient-kept n d p h k)

-- digits, a slash and a sign, with the point between
abbrev pub is_spelling_byte : ℕ → Bool
is_spelling_byte c = ltb 44 c && ltb c 58

digit-spelling : (c : ℕ) → is_ascii_digit c ≡ true → is_spelling_byte c ≡ true
digit-spelling c h = grind (arith, nat_tests)

-- a text of such bytes
pub record IsSpelling (text : List ℕ) : Type 0 where
  pub bytes : Pass is_spelling_byte text
  pub first : ℕ
  pub rest : List ℕ
  pub is : text ≡ first ∷ rest
  pub short : length text ≤ 76

-- the value of a transition, and a reward, so spelled
pub record IsValueText (text : List ℕ) (x : ℚ) : Type 0 where
  pub spelling : IsSpelling text
  pub value : value_of text ≡ Ok x

pub record IsRewardText (text : List ℕ) (x : ℚ) : Type 0 where
  pub spelling : IsSpelling text
  pub reward : reward_of text ≡ Ok x

-- a numeral without a sign
record IsNumeralText (text : List ℕ) (x : ℚ) : Type 0 where
  bytes : Pass is_spelling_byte text
  first : ℕ
  rest : List ℕ
  is : text ≡ first ∷ rest
  digit : is_ascii_digit first ≡ true
  short : length text ≤ 75
  numeral : numeral_of text ≡ Ok x

pub begins-other : (w : ℕ) (word : List ℕ) (c : ℕ) (rest : List ℕ) → eqb w c ≡ false → begins_with (w ∷ word) (c ∷ rest) ≡ false
begins-other w word c rest e = rw e refl

digit-minus : (c : ℕ) → is_ascii_digit c ≡ true → eqb 45 c ≡ false
digit-minus c h = grind (arith, nat_tests)

value-numeral : (c : ℕ) (rest : List ℕ) (x : ℚ) → is_ascii_digit c ≡ true → numeral_of (c ∷ rest) ≡ Ok x → value_of (c ∷ rest) ≡ Ok x
unfolding value_of
value-numeral c rest x d e = rw (begins-other 45 [] c rest (digit-minus c d), e) refl

reward-numeral : (c : ℕ) (rest : List ℕ) (x : ℚ) → is_ascii_digit c ≡ true → numeral_of (c ∷ rest) ≡ Ok x → reward_of (c ∷ rest) ≡ Ok x
unfolding reward_of
reward-numeral c rest x d e = rw (begins-other 45 [] c rest (digit-minus c d), e) refl

reward-negated : (text : List ℕ) (x : ℚ) → numeral_of text ≡ Ok x → reward_of (45 ∷ text) ≡ Ok (neg_ℚ x)
unfolding reward_of
reward-negated text x e = rw e refl

numeral-spelling : (text : List ℕ) (x : ℚ) → IsNumeralText text x → IsSpelling text
numeral-spelling text x h = record { bytes = h.bytes; first = h.first; rest = h.rest; is = h.is; short = omega (arith, h.short) }

numeral-value : (text : List ℕ) (x : ℚ) → IsNumeralText text x → IsValueText text x
numeral-value text x h = record {
  spelling = numeral-spelling text x h;
  value = ap value_of h.is ∙ value-numeral h.first h.rest x h.digit (ap numeral_of (sym h.is) ∙ h.numeral);
}

numeral-reward : (text : List ℕ) (x : ℚ) → IsNumeralText text x → IsRewardText text x
numeral-reward text x h = record {
  spelling = numeral-spelling text x h;
  reward = ap reward_of h.is ∙ reward-numeral h.first h.rest x h.digit (ap numeral_of (sym h.is) ∙ h.numeral);
}

-- with a sign before it
negated-reward : (text : List ℕ) (x : ℚ) → IsNumeralText text x → IsRewardText (45 ∷ text) (neg_ℚ x)
negated-reward text x h = record {
  spelling = record { bytes = h.bytes; first = 45; rest = text; is = refl; short = omega (arith, h.short) };
  reward = reward-negated text x h.numeral;
}

-- ---- the texts of fractions without a sign

numeral-text : (text : List ℕ) (x y : ℚ) (c : ℕ) (cs : List ℕ) → Pass is_spelling_byte text → text ≡ c ∷ cs → is_ascii_digit c ≡ true → length text ≤ 75
    → numeral_of text ≡ Ok y → y ≡ x → IsNumeralText text x
numeral-text text x y c cs bytes is digit short e same = record { bytes = bytes; first = c; rest = cs; is = is; digit = digit; short = short; numeral = e ∙ ap Ok same }

digits-spelling : (text : List ℕ) → Pass is_ascii_digit text → Pass is_spelling_byte text
digits-spelling text h = pass-weaken is_ascii_digit is_spelling_byte digit-spelling text h

text-whole : (n : ℕ) (x : ℚ) → n ≤ limit → ratio (pos n) 1 ≡ x → IsNumeralText (decimal n) x
text-whole n x h e =
    let d = is-decimal n (limit-wide n h) in
    let s = decimal-short n h in
    numeral-text (decimal n) x (ratio (pos n) 1) d.first d.rest (digits-spelling (decimal n) d.bytes) d.is d.digit (omega arith) (numeral-whole n h) e

text-quotient : (n d : ℕ) (x : ℚ) → n ≤ limit → 0 < d → d ≤ limit → ratio (pos n) d ≡ x → IsNumeralText (decimal n ++ 47 ∷ decimal d) x
text-quotient n d x h p k e =
    let a = is-decimal n (limit-wide n h) in
    let b = is-decimal d (limit-wide d k) in
    let s = decimal-short n h in
    let t = decimal-short d k in
    let text : List ℕ = decimal n ++ 47 ∷ decimal d in
    let bytes = pass-append is_spelling_byte (decimal n) (47 ∷ decimal d) (digits-spelling (decimal n) a.bytes) (digits-spelling (decimal d) b.bytes) in
    let is : decimal n ++ 47 ∷ decimal d ≡ a.first ∷ (a.rest ++ 47 ∷ decimal d) = ap (λ (t : List ℕ). t ++ 47 ∷ decimal d) a.is in
    numeral-text text x (ratio (pos n) d) a.first (a.rest ++ 47 ∷ decimal d) bytes is a.digit
    (omega (arith, length-append (decimal n) (47 ∷ decimal d))) (numeral-quotient n d h p k) e

-- a numerator without its sign, and a denominator
abbrev terms_text : ℕ → ℕ → List ℕ
terms_text n d = cond (eqb d 1) (decimal n) (decimal n ++ 47 ∷ decimal d)

text-terms : (n d : ℕ) → n ≤ limit → 0 < d → d ≤ limit → IsNumeralText (terms_text n d) (ratio (pos n) d)
text-terms n d h p k = by (eqb d 1) refl
  where
    by : (b : Bool) → eqb d 1 ≡ b → IsNumeralText (cond b (decimal n) (decimal n ++ 47 ∷ decimal d)) (ratio (pos n) d)
    by true is = let one : d ≡ 1 = grind (arith, nat_tests) in text-whole n (ratio (pos n) d) h (ap (ratio (pos n)) (sym one))
    by false is = text-quotient n d (ratio (pos n) d) h p k refl

pub zero-text : IsRewardText (decimal 0) (of_int (pos 0))
unfolding of_int
zero-text = numeral-reward (decimal 0) (of_int (pos 0)) (text-whole 0 (of_int (pos 0)) (omega arith) (ratio_self (of_int (pos 0))))

-- ---- spellings

nonneg-num : (z : ℤ) → pos 0 ≤ℤ z → z ≡ pos (unsigned_abs z)
nonneg-num (pos n) h = refl
nonneg-num (negsuc n) h = absurd (omega (arith, ints))

-- the spelling of a fraction whose numerator is this one
abbrev spelled : ℤ → ℕ → List ℕ
spelled z d = cond (eqb d 1) (signed_decimal z) (signed_decimal z ++ 47 ∷ decimal d)

pub spelling-value : (x : ℚ) → IsWithinLimit x → IsValueText (spelling x) x
unfolding spelling
spelling-value x h =
    let e : x.num ≡ pos (unsigned_abs x.num) = nonneg-num x.num (nonneg x h.nonnegative) in
    let s : spelling x ≡ terms_text (unsigned_abs x.num) x.den = ap (λ (z : ℤ). spelled z x.den) e in
    let r : ratio (pos (unsigned_abs x.num)) x.den ≡ x = ap (λ (z : ℤ). ratio z x.den) (sym e) ∙ ratio_self x in
    let t = numeral-value (terms_text (unsigned_abs x.num) x.den) (ratio (pos (unsigned_abs x.num)) x.den) (text-terms (unsigned_abs x.num) x.den h.num (den-pos x) h.den) in
    subst (λ (t : List ℕ). IsValueText t x) (sym s) (subst (IsValueText (terms_text (unsigned_abs x.num) x.den)) r t)

neg-twice : (z : ℤ) → neg_ℤ (neg_ℤ z) ≡ z
neg-twice (pos zero) = refl
neg-twice (pos (suc n)) = refl
neg-twice (negsuc n) = refl

neg-ratio : (n d : ℕ) (x : ℚ) → x.num ≡ negsuc n → x.den ≡ d → neg_ℚ (ratio (pos (suc n)) d) ≡ x
unfolding neg_ℚ
neg-ratio n d x top bottom =
    let y : ℚ = neg_ℚ x in
    let num : ℚ.num (neg_ℚ x) ≡ pos (suc n) = num-neg x ∙ ap neg_ℤ top in
    let den : ℚ.den (neg_ℚ x) ≡ d = den-neg x ∙ bottom in
    let same : ratio (pos (suc n)) d ≡ neg_ℚ x = ap₂ ratio (sym num) (sym den) ∙ ratio_self (neg_ℚ x) in
    let twice : neg_ℚ (neg_ℚ x) ≡ ratio (neg_ℤ (neg_ℤ x.num)) x.den = ap₂ (λ (z : ℤ) (k : ℕ). ratio (neg_ℤ z) k) (num-neg x) (den-neg x) in
    ap neg_ℚ same ∙ twice ∙ ap (λ (z : ℤ). ratio z x.den) (neg-twice x.num) ∙ ratio_self x

minus-out : (n d : ℕ) → spelled (negsuc n) d ≡ 45 ∷ terms_text (suc n) d
minus-out n d = by (eqb d 1)
  where
    by : (b : Bool) → cond b (signed_decimal (negsuc n)) (signed_decimal (negsuc n) ++ 47 ∷ decimal d) ≡ 45 ∷ cond b (decimal (suc n)) (decimal (suc n) ++ 47 ∷ decimal d)
    by true = refl
    by false = refl

spelled-reward : (z : ℤ) (d : ℕ) (x : ℚ) → x.num ≡ z → x.den ≡ d → unsigned_abs z ≤ limit → 0 < d → d ≤ limit → IsRewardText (spelled z d) x
spelled-reward (pos n) d x top bottom h p k =
    let r : ratio (pos n) d ≡ x = ap₂ ratio (sym top) (sym bottom) ∙ ratio_self x in
    subst (IsRewardText (terms_text n d)) r (numeral-reward (terms_text n d) (ratio (pos n) d) (text-terms n d h p k))
spelled-reward (negsuc n) d x top bottom h p k =
    let t = negated-reward (terms_text (suc n) d) (ratio (pos (suc n)) d) (text-terms (suc n) d h p k) in
    subst (λ (t : List ℕ). IsRewardText t x) (sym (minus-out n d)) (subst (IsRewardText (45 ∷ terms_text (suc n) d)) (neg-ratio n d x top bottom) t)

pub spelling-reward : (x : ℚ) → HasSmallTerms x → IsRewardText (spelling x) x
unfolding spelling
spelling-reward x h = spelled-reward x.num x.den x refl refl h.num (den-pos x) h.den
