-- What is read as a canonical spelling is one, and each one is read.
use Rattle.std.proofs.Common.{◌≡◌, ℕ, zero, suc, ◌<◌, ◌^◌, Bool, true, false, not, ◌&&◌, ◌||◌, cond, eqb, ltb, lt-ltb, eq-eqb, if◌then◌else◌, List, [], ◌∷◌, ◌++◌, length}
use Rattle.std.proofs.Common.{decimal, Option, Some, None, refl, sym, ap, ap₂, subst, ◌∙◌, arith, lit<, ℤ, pos, negsuc, unsigned_abs}
use Rattle.std.proofs.{lemmas.List.{append-nil, take-append-drop}, lemmas.Bool.Decides.{nat_tests}}
use Rattle.std.specs.{Char.{is_ascii_digit}, List.{prefix_len}, Option.{IfSome, IsNone}, Fmt.{signed_decimal}}
use Rattle.mdp_math.specs.{Gcd.{gcd}, Rational.{ℚ, ratio}, Written.{signed}}
use Rattle.mdp_math.proofs.{Laws.{ratio_self, num-ratio, den-ratio, den-pos, coprime}, Written.{abs-signed}}
use Rattle.mdp_num.specs.Digits.{front_digits, behind_digits, is_digits, is_plain, number}
use Rattle.mdp_num.specs.Canonical.{term_of, above_one, den_behind, lowest_of, unsigned_of, canonical_of, IsSpelled, IsReadBack, IsOneSpelling}
use Rattle.mdp_num.specs.Value.{spelling, IsNarrow}
use Rattle.mdp_num.proofs.{Plain.{decimal-plain, one-plain}, Grammar.{cond-some, digit-first, front-is, behind-is}}

-- ---- terms

width-small : (n : ℕ) → n < 2 ^ 127 → n < 10 ^ 64
width-small n h = let p : 2 ^ 127 < 10 ^ 64 = lit< tt in omega (arith, p)

term-tests : (a b : Bool) → (a && b) ≡ true → (a ≡ true) × (b ≡ true)
term-tests true b e = (refl, e)
term-tests false b e = absurd cc

pub term-sound : (digits : List ℕ) (n : ℕ) → term_of digits ≡ Some n → (digits ≡ decimal n) × (n < 2 ^ 127)
term-sound digits n e =
    let p = cond-some (is_plain digits && ltb (number digits) (2 ^ 127)) (number digits) n e in
    let t = term-tests (is_plain digits) (ltb (number digits) (2 ^ 127)) p.0 in
    let narrow : number digits < 2 ^ 127 = grind (arith, nat_tests) in
    let lt : n < 2 ^ 127 = subst (λ (k : ℕ). k < 2 ^ 127) p.1 narrow in
    ((one-plain n digits (width-small n lt)).1 t.0 p.1, lt)

pub term-complete : (n : ℕ) → n < 2 ^ 127 → term_of (decimal n) ≡ Some n
term-complete n h =
    let p = (one-plain n (decimal n) (width-small n h)).0 refl in
    ap₂ (λ (a : Bool) (k : ℕ). cond (a && ltb k (2 ^ 127)) (Some k) None) p.0 p.1 ∙ ap (λ (b : Bool). cond b (Some n) None) (lt-ltb n (2 ^ 127) h)

-- ---- the text behind the numerator

abbrev tail : ℕ → List ℕ
tail d = if eqb d 1 then [] else (47 ∷ decimal d)

tail-else : (d : ℕ) → 1 < d → tail d ≡ 47 ∷ decimal d
tail-else d h = let e : eqb d 1 ≡ false = grind (arith, nat_tests) in ap (λ (b : Bool). cond b [] (47 ∷ decimal d)) e

above-sound : (o : Option ℕ) (d : ℕ) → above_one o ≡ Some d → (o ≡ Some d) × (1 < d)
above-sound None d e = absurd cc
above-sound (Some k) d e =
    let p = cond-some (ltb 1 k) k d e in
    let lt : 1 < k = grind (arith, nat_tests) in
    (ap Some p.1, subst (λ (j : ℕ). 1 < j) p.1 lt)

record IsDen (bytes : List ℕ) (d : ℕ) : Type 0 where
  text : bytes ≡ tail d
  some : 0 < d
  narrow : d < 2 ^ 127

one-is : (d : ℕ) → Some 1 ≡ Some d → 1 ≡ d
one-is d e = cc

den-sound : (bytes : List ℕ) (d : ℕ) → den_behind bytes ≡ Some d → IsDen bytes d
den-sound [] d e = subst (λ (k : ℕ). IsDen [] k) (one-is d e) (record { text = refl; some = omega arith; narrow = lit< tt })
den-sound (c ∷ digits) d e = by (eqb c 47) refl e
  where
    by : (b : Bool) → eqb c 47 ≡ b → cond b (above_one (term_of digits)) None ≡ Some d → IsDen (c ∷ digits) d
    by true is e =
        let p = above-sound (term_of digits) d e in
        let t = term-sound digits d p.0 in
        let c-is : c ≡ 47 = grind (arith, nat_tests) in
        record { text = ap₂ (λ (x : ℕ) (xs : List ℕ). x ∷ xs) c-is t.0 ∙ sym (tail-else d p.1); some = omega (arith, p.1); narrow = t.1 }
    by false is e = absurd cc

den-complete : (d : ℕ) → 0 < d → d < 2 ^ 127 → den_behind (tail d) ≡ Some d
den-complete zero h k = absurd (omega arith)
den-complete (suc zero) h k = refl
den-complete (suc (suc d)) h k =
    let n : ℕ = suc (suc d) in
    let lt : 1 < n = omega arith in
    let above : ltb 1 n ≡ true = lt-ltb 1 n lt in
    ap den_behind (tail-else n lt) ∙ ap above_one (term-complete n k) ∙ ap (λ (b : Bool). cond b (Some n) None) above

tail-stops : (d : ℕ) → prefix_len is_ascii_digit (tail d) ≡ 0
tail-stops d = by (eqb d 1)
  where
    by : (b : Bool) → prefix_len is_ascii_digit (cond b [] (47 ∷ decimal d)) ≡ 0
    by true = refl
    by false = refl

-- ---- the sign

abbrev prefixed : Bool → List ℕ → List ℕ
prefixed true text = 45 ∷ text
prefixed false text = text

prefixed-append : (b : Bool) (xs ys : List ℕ) → prefixed b xs ++ ys ≡ prefixed b (xs ++ ys)
prefixed-append true xs ys = refl
prefixed-append false xs ys = refl

signed_decimal-signed : (b : Bool) (n : ℕ) → (b && eqb n 0) ≡ false → signed_decimal (signed b n) ≡ prefixed b (decimal n)
signed_decimal-signed false n e = refl
signed_decimal-signed true zero e = absurd cc
signed_decimal-signed true (suc n) e = refl

spelling-tail : (x : ℚ) → spelling x ≡ signed_decimal x.num ++ tail x.den
unfolding spelling
spelling-tail x = by (eqb x.den 1)
  where
    by : (b : Bool) → cond b (signed_decimal x.num) (signed_decimal x.num ++ 47 ∷ decimal x.den) ≡ signed_decimal x.num ++ cond b [] (47 ∷ decimal x.den)
    by true = sym (append-nil (signed_decimal x.num))
    by false = refl

-- ---- a fraction of lowest terms, the sign apart

record AreLowest (b : Bool) (n d : ℕ) : Type 0 where
  lowest : gcd n d ≡ 1
  sign : (b && eqb n 0) ≡ false

module _ (b : Bool) (n d : ℕ) (some : 0 < d) (h : AreLowest b n d) where
  coprime_signed : gcd (unsigned_abs (signed b n)) d ≡ 1
  coprime_signed = ap (λ (k : ℕ). gcd k d) (abs-signed b n) ∙ h.lowest

  num-is : ℚ.num (ratio (signed b n) d) ≡ signed b n
  num-is = num-ratio (signed b n) d some coprime_signed

  den-is : ℚ.den (ratio (signed b n) d) ≡ d
  den-is = den-ratio (signed b n) d some coprime_signed

  spelling_is : spelling (ratio (signed b n) d) ≡ prefixed b (decimal n ++ tail d)
  spelling_is = spelling-tail (ratio (signed b n) d) ∙ ap₂ (λ (z : ℤ) (k : ℕ). signed_decimal z ++ tail k) num-is den-is
      ∙ ap (λ (t : List ℕ). t ++ tail d) (signed_decimal-signed b n h.sign) ∙ prefixed-append b (decimal n) (tail d)

  narrow_is : n < 2 ^ 127 → d < 2 ^ 127 → IsNarrow (ratio (signed b n) d)
  narrow_is p q = record {
    top = subst (λ (k : ℕ). k < 2 ^ 127) (sym (ap unsigned_abs num-is ∙ abs-signed b n)) p;
    bottom = subst (λ (k : ℕ). k < 2 ^ 127) (sym den-is) q;
  }

-- ---- sound

record IsLowestOf (b : Bool) (o p : Option ℕ) (x : ℚ) : Type 0 where
  num : ℕ
  den : ℕ
  num-is : o ≡ Some num
  den-is : p ≡ Some den
  lowest : AreLowest b num den
  value : ratio (signed b num) den ≡ x

refused-or : (u v : Bool) (x y : ℚ) → cond (u || not v) None (Some x) ≡ Some y → (u ≡ false) × (v ≡ true) × (x ≡ y)
refused-or true v x y e = absurd cc
refused-or false true x y e = (refl, refl, cc)
refused-or false false x y e = absurd cc

lowest-sound : (b : Bool) (o p : Option ℕ) (x : ℚ) → lowest_of b o p ≡ Some x → IsLowestOf b o p x
lowest-sound b None p x e = absurd cc
lowest-sound b (Some n) None x e = absurd cc
lowest-sound b (Some n) (Some d) x e =
    let r = refused-or (b && eqb n 0) (eqb (gcd n d) 1) (ratio (signed b n) d) x e in
    let one : gcd n d ≡ 1 = grind (arith, nat_tests) in
    record { num = n; den = d; num-is = refl; den-is = refl; lowest = record { lowest = one; sign = r.0 }; value = r.2 }

unsigned-sound : (b : Bool) (bytes : List ℕ) (x : ℚ) → unsigned_of b bytes ≡ Some x → (prefixed b bytes ≡ spelling x) × IsNarrow x
unsigned-sound b bytes x e =
    let l = lowest-sound b (term_of (front_digits bytes)) (den_behind (behind_digits bytes)) x e in
    let t = term-sound (front_digits bytes) l.num l.num-is in
    let d = den-sound (behind_digits bytes) l.den l.den-is in
    let parts : bytes ≡ decimal l.num ++ tail l.den = sym (take-append-drop (prefix_len is_ascii_digit bytes) bytes) ∙ ap₂ (λ (xs ys : List ℕ). xs ++ ys) t.0 d.text in (
      ap (prefixed b) parts ∙ sym (spelling_is b l.num l.den d.some l.lowest) ∙ ap spelling l.value,
      subst IsNarrow l.value (narrow_is b l.num l.den d.some l.lowest t.1 d.narrow),
    )

pub sound : IsSpelled
unfolding canonical_of
sound [] x e = absurd cc
sound (c ∷ bytes) x e = by (eqb c 45) refl e
  where
    by : (b : Bool) → eqb c 45 ≡ b → cond b (unsigned_of true bytes) (unsigned_of false (c ∷ bytes)) ≡ Some x → (c ∷ bytes ≡ spelling x) × IsNarrow x
    by true is e =
        let p = unsigned-sound true bytes x e in
        let c-is : c ≡ 45 = grind (arith, nat_tests) in
        (ap (λ (k : ℕ). k ∷ bytes) c-is ∙ p.0, p.1)
    by false is e = unsigned-sound false (c ∷ bytes) x e

-- ---- complete

decimal-digits : (n : ℕ) → n < 2 ^ 127 → is_digits (decimal n) ≡ true
decimal-digits n h = let p = decimal-plain n (width-small n h) in by (prefix_len is_ascii_digit (decimal n)) (length (decimal n)) p.some p.digits
  where
    by : (p l : ℕ) → 0 < l → p ≡ l → (ltb 0 l && eqb p l) ≡ true
    by p l s e = grind (arith, nat_tests)

unsigned-complete : (b : Bool) (n d : ℕ) → 0 < d → AreLowest b n d → n < 2 ^ 127 → d < 2 ^ 127 → unsigned_of b (decimal n ++ tail d) ≡ Some (ratio (signed b n) d)
unsigned-complete b n d some h p q =
    let digits = decimal-digits n p in
    let front = front-is (decimal n) (tail d) digits (tail-stops d) in
    let behind = behind-is (decimal n) (tail d) digits (tail-stops d) in
    ap₂ (lowest_of b) (ap term_of front ∙ term-complete n p) (ap den_behind behind ∙ den-complete d some q)
    ∙ ap₂ (λ (u v : Bool). cond (u || not v) None (Some (ratio (signed b n) d))) h.sign (eq-eqb (gcd n d) 1 h.lowest)

-- a text that begins with a digit has no sign
without_sign : (digits rest : List ℕ) → is_digits digits ≡ true → canonical_of (digits ++ rest) ≡ unsigned_of false (digits ++ rest)
unfolding canonical_of
without_sign [] rest d = absurd cc
without_sign (c ∷ cs) rest d =
    let digit = digit-first c cs d in
    let e : eqb c 45 ≡ false = grind (arith, nat_tests) in
    ap (λ (b : Bool). cond b (unsigned_of true (cs ++ rest)) (unsigned_of false (c ∷ (cs ++ rest)))) e

minus : (text : List ℕ) → canonical_of (45 ∷ text) ≡ unsigned_of true text
unfolding canonical_of
minus text = refl

pub complete : IsReadBack
complete x narrow = ap canonical_of (spelling-tail x) ∙ by x.num refl
  where
    by : (z : ℤ) → x.num ≡ z → canonical_of (signed_decimal x.num ++ tail x.den) ≡ Some x
    by (pos n) e =
        let small : n < 2 ^ 127 = subst (λ (z : ℤ). unsigned_abs z < 2 ^ 127) e narrow.top in
        let one : gcd n x.den ≡ 1 = ap (λ (z : ℤ). gcd (unsigned_abs z) x.den) (sym e) ∙ coprime x in
        ap (λ (z : ℤ). canonical_of (signed_decimal z ++ tail x.den)) e
        ∙ without_sign (decimal n) (tail x.den) (decimal-digits n small)
        ∙ unsigned-complete false n x.den (den-pos x) (record { lowest = one; sign = refl }) small narrow.bottom
        ∙ ap Some (ap (λ (z : ℤ). ratio z x.den) (sym e) ∙ ratio_self x)
    by (negsuc n) e =
        let small : suc n < 2 ^ 127 = subst (λ (z : ℤ). unsigned_abs z < 2 ^ 127) e narrow.top in
        let nonzero : eqb (suc n) 0 ≡ false = grind (arith, nat_tests) in
        let one : gcd (suc n) x.den ≡ 1 = ap (λ (z : ℤ). gcd (unsigned_abs z) x.den) (sym e) ∙ coprime x in
        ap (λ (z : ℤ). canonical_of (signed_decimal z ++ tail x.den)) e
        ∙ minus (decimal (suc n) ++ tail x.den)
        ∙ unsigned-complete true (suc n) x.den (den-pos x) (record { lowest = one; sign = nonzero }) small narrow.bottom
        ∙ ap Some (ap (λ (z : ℤ). ratio z x.den) (sym e) ∙ ratio_self x)

-- ---- what follows

some-is : (x y : ℚ) → Some x ≡ Some y → x ≡ y
some-is x y e = cc

pub one_spelling : IsOneSpelling
one_spelling x y p q e = some-is x y (sym (complete x p) ∙ ap canonical_of e ∙ complete y q)

pub found : (bytes : List ℕ) (r : Option ℚ) → r ≡ canonical_of bytes → IfSome r (λ f. bytes ≡ spelling f)
found bytes None e = tt
found bytes (Some x) e = (sound bytes x (sym e)).0

pub none : (bytes : List ℕ) (r : Option ℚ) → r ≡ canonical_of bytes → IsNone r → (x : ℚ) → IsNarrow x → bytes ≡ spelling x → ⊥
none bytes None e h x narrow is = let f : None ≡ Some x = e ∙ ap canonical_of is ∙ complete x narrow in absurd cc
none bytes (Some y) e h x narrow is = absurd cc
