-- Plain digits are decimal texts.
use Rattle.std.proofs.Common.{◌≡◌, ℕ, zero, suc, ◌+◌, ◌-◌, ◌*◌, ◌/◌, ◌%◌, ◌^◌, ◌<◌, ◌≤◌, ◌⊎◌, take, get_or, decimal, refl, sym, ap, subst, ◌∙◌, arith}
use Rattle.std.proofs.Common.{inl, inr, true, not, ltb, eqb, ◌&&◌, ◌||◌, List, [], ◌∷◌, ◌++◌, length}
use Rattle.std.proofs.lemmas.List.{take_more, take_all, length-take-le, length-append, get_or_append_left, get_or-take}
use Rattle.std.proofs.{lemmas.List.Sums.{prefix_len_passes, prefix_len_is}, lemmas.Bool.{cases_lt}, lemmas.Bool.Decides.{nat_tests}}
use Rattle.std.proofs.{lemmas.Fmt.{decimal_digit, decimal_step_wide, decimal_by_steps_wide, decimal_is_IsNumeral_wide}, lemmas.Nat.{div-mul-add, mod-mul-add}}
use Rattle.std.specs.{Char.{is_ascii_digit, digit_value}, List.{prefix_len}, Str.Parse.{AllDigits, digits_value_after}}
use Rattle.mdp_num.proofs.Zeros.{number_after-more, number_after-ge}
use Rattle.mdp_num.specs.Digits.{number, number_after, is_plain}

-- ---- from a number to its text

digit-is : (c : ℕ) → digit_value c < 10 → (digit_value c ≡ c - 48) × (is_ascii_digit c ≡ true)
digit-is c lt = (grind (arith, nat_tests), grind (arith, nat_tests))

number-is : (n : ℕ) (ds : List ℕ) → AllDigits 10 ds → number_after n ds ≡ digits_value_after 10 n ds
number-is n [] all = refl
number-is n (c ∷ cs) all = let e = digit-is c all.0 in number-is (n * 10 + (c - 48)) cs all.1 ∙ ap (λ (d : ℕ). digits_value_after 10 (n * 10 + d) cs) (sym e.0)

prefix-all : (ds : List ℕ) → AllDigits 10 ds → prefix_len is_ascii_digit ds ≡ length ds
prefix-all [] all = refl
prefix-all (c ∷ cs) all = let e = digit-is c all.0 in rw e.1 (let r = prefix-all cs all.1 in omega arith)

-- the first byte of a decimal text
abbrev First : ℕ → List ℕ → Type 0
First n ds = (0 < length ds) × (n < 10 → length ds ≡ 1) × (0 < n → 48 < get_or ds 0 0)

first-one : (n : ℕ) → n < 10 → First n ((48 + n) ∷ [])
first-one n lt = (omega arith, λ _. refl, λ pos. omega arith)

first-more : (n : ℕ) (ds : List ℕ) → 10 ≤ n → First (n / 10) ds → First n (ds ++ (48 + n % 10) ∷ [])
first-more n ds ge h =
    let e = get_or_append_left ds ((48 + n % 10) ∷ []) 0 0 h.0 in
    (omega (arith, length-append ds ((48 + n % 10) ∷ [])), λ lt. absurd (omega arith), λ pos. (let f : 48 < get_or ds 0 0 = h.2 (omega arith) in omega (arith, e)))

first-decimal : (n : ℕ) → n < 10 ^ 64 → First n (decimal n)
first-decimal n lt = decimal_by_steps_wide First first-one first-more n lt

-- ---- plain digits, by their parts

pub record IsPlain (ds : List ℕ) : Type 0 where
  pub some : 0 < length ds
  pub digits : prefix_len is_ascii_digit ds ≡ length ds
  pub first : (length ds ≡ 1) ⊎ (get_or ds 0 0 ≡ 48 → ⊥)

pub plain-parts : (ds : List ℕ) → is_plain ds ≡ true → IsPlain ds
plain-parts [] h = absurd cc
plain-parts (c ∷ cs) h = record { some = omega arith; digits = by (prefix_len is_ascii_digit (c ∷ cs)) (length cs) h; first = last (prefix_len is_ascii_digit (c ∷ cs)) c (length cs) h }
  where
    by : (p n : ℕ) → ((ltb 0 (suc n) && eqb p (suc n)) && (not (eqb c 48) || eqb n 0)) ≡ true → p ≡ suc n
    by p n e = grind (arith, nat_tests)

    last : (p c n : ℕ) → ((ltb 0 (suc n) && eqb p (suc n)) && (not (eqb c 48) || eqb n 0)) ≡ true → (suc n ≡ 1) ⊎ (c ≡ 48 → ⊥)
    last p c n e = grind (arith, nat_tests)

pub parts-plain : (ds : List ℕ) → IsPlain ds → is_plain ds ≡ true
parts-plain [] h = absurd (omega (arith, h.some))
parts-plain (c ∷ cs) h = by (prefix_len is_ascii_digit (c ∷ cs)) c (length cs) h.digits h.first
  where
    by : (p c n : ℕ) → p ≡ suc n → (suc n ≡ 1) ⊎ (c ≡ 48 → ⊥) → ((ltb 0 (suc n) && eqb p (suc n)) && (not (eqb c 48) || eqb n 0)) ≡ true
    by p c n e f = grind (arith, nat_tests)

pub decimal-plain : (n : ℕ) → n < 10 ^ 64 → IsPlain (decimal n)
decimal-plain n lt =
    let f = first-decimal n lt in
    record {
      some = f.0;
      digits = prefix-all (decimal n) (decimal_is_IsNumeral_wide n lt).0.1;
      first = elim (cases_lt n 10) [ inl small ↦ inl (f.1 small) | inr big ↦ inr (λ e. omega (arith, f.2 (omega arith))) ];
    }

pub number-decimal : (n : ℕ) → n < 10 ^ 64 → number (decimal n) ≡ n
number-decimal n lt = let h = decimal_is_IsNumeral_wide n lt in number-is 0 (decimal n) h.0.1 ∙ h.1

-- ---- from a text to its number

pub digit-at : (ds : List ℕ) (i : ℕ) → prefix_len is_ascii_digit ds ≡ length ds → i < length ds → is_ascii_digit (get_or ds i 0) ≡ true
digit-at ds i all lt = prefix_len_passes is_ascii_digit ds i 0 (omega arith)

pub digit-bounds : (c : ℕ) → is_ascii_digit c ≡ true → (48 ≤ c) × (c < 58)
digit-bounds c h = (grind (arith, nat_tests), grind (arith, nat_tests))

-- the digits without the last
front-plain : (ds : List ℕ) (m : ℕ) → IsPlain ds → length ds ≡ m + 1 → 0 < m → IsPlain (take m ds)
front-plain ds m h len pos =
    let l = length-take-le m ds (omega arith) in
    record {
      some = omega arith;
      digits = prefix_len_is is_ascii_digit (take m ds) (length (take m ds)) 0 (omega arith)
          (λ k lt. rw (get_or-take m ds k 0 (omega arith)) (digit-at ds k h.digits (omega arith))) (λ lt. absurd (omega arith));
      first = elim h.first [ inl one ↦ absurd (omega arith) | inr differ ↦ inr (λ e. differ (sym (get_or-take m ds 0 0 pos) ∙ e)) ];
    }

-- without a 0 in front the number isn't 0
number-pos : (ds : List ℕ) → 0 < length ds → 48 < get_or ds 0 0 → 0 < number ds
number-pos [] some first = absurd (omega arith)
number-pos (c ∷ cs) some first = omega (arith, number_after-ge (0 * 10 + (c - 48)) cs)

text-is : (k : ℕ) (ds : List ℕ) → length ds ≡ k + 1 → IsPlain ds → number ds < 10 ^ 64 → ds ≡ decimal (number ds)
text-is zero ds len h lt = one ds len h
  where
    one : (ds : List ℕ) → length ds ≡ 0 + 1 → IsPlain ds → ds ≡ decimal (number ds)
    one [] len h = absurd (omega arith)
    one (c ∷ []) len h =
        let b = digit-bounds c (digit-at (c ∷ []) 0 h.digits (omega arith)) in
        let n : number (c ∷ []) ≡ c - 48 = omega arith in
        let back : 48 + (c - 48) ≡ c = omega arith in
        sym (ap decimal n ∙ decimal_digit (c - 48) (omega arith) ∙ ap (λ (x : ℕ). x ∷ []) back)
    one (c ∷ d ∷ ds) len h = absurd (omega arith)
text-is (suc k) ds len h lt =
    let m : ℕ = k + 1 in
    let front = take m ds in
    let c = get_or ds m 0 in
    let ds-is : ds ≡ front ++ c ∷ [] = sym (take_all (m + 1) ds (omega arith)) ∙ take_more ds m 0 (omega arith) in
    let b = digit-bounds c (digit-at ds m h.digits (omega arith)) in
    let n-is : number ds ≡ number front * 10 + (c - 48) = ap number (sym (take_all (m + 1) ds (omega arith))) ∙ number_after-more 0 ds m (omega arith) in
    let p = front-plain ds m h (omega arith) (omega arith) in
    let flen : length front ≡ k + 1 = length-take-le m ds (omega arith) in
    let nonzero : 48 < get_or front 0 0 = (let d = digit-bounds (get_or front 0 0) (digit-at front 0 p.digits (omega arith)) in first-not ds m h (omega arith) (omega arith) d.0) in
    let pos = number-pos front (omega arith) nonzero in
    let quotient : number ds / 10 ≡ number front = ap (λ (x : ℕ). x / 10) n-is ∙ div-mul-add (number front) 10 (c - 48) (omega arith) in
    let rest : number ds % 10 ≡ c - 48 = ap (λ (x : ℕ). x % 10) n-is ∙ mod-mul-add (number front) 10 (c - 48) (omega arith) in
    let ih : front ≡ decimal (number front) = text-is k front flen p (omega arith) in
    let last : 48 + number ds % 10 ≡ c = omega arith in
    ds-is ∙ ap (λ (xs : List ℕ). xs ++ c ∷ []) ih ∙ sym (decimal_step_wide (number ds) (omega arith) lt ∙ ap (λ (q : ℕ). decimal q ++ (48 + number ds % 10) ∷ []) quotient
    ∙ ap (λ (x : ℕ). decimal (number front) ++ x ∷ []) last)
  where
    first-not : (ds : List ℕ) (m : ℕ) → IsPlain ds → length ds ≡ m + 1 → 0 < m → 48 ≤ get_or (take m ds) 0 0 → 48 < get_or (take m ds) 0 0
    first-not ds m h len pos ge =
        elim h.first [
          | inl one ↦ absurd (omega arith)
          | inr differ ↦ (let e = get_or-take m ds 0 0 pos in let differs : get_or (take m ds) 0 0 ≡ 48 → ⊥ = λ is. differ (sym e ∙ is) in omega arith)
        ]

-- of numbers below 10 ^ 64 the plain digits are the decimal text, and no other
pub one-plain : (n : ℕ) (text : List ℕ) → n < 10 ^ 64 → ((text ≡ decimal n) → (is_plain text ≡ true) × (number text ≡ n)) × ((is_plain text ≡ true) → number text ≡ n → text ≡ decimal n)
one-plain n text lt = (
  λ is. (subst (λ (ds : List ℕ). is_plain ds ≡ true) (sym is) (parts-plain (decimal n) (decimal-plain n lt)), ap number is ∙ number-decimal n lt),
  λ plain is.
      (let h = plain-parts text plain in
      let len : length text ≡ (length text - 1) + 1 = omega (arith, h.some) in
      text-is (length text - 1) text len h (omega arith) ∙ ap decimal is),
)
