-- Texts without a byte, and words behind blanks.
use Rattle.std.proofs.Common.{◌≡◌, ℕ, suc, ◌<◌, ◌≤◌, ◌^◌, Bool, true, false, cond, eqb, ◌||◌, List, []}
use Rattle.std.proofs.Common.{◌∷◌, ◌++◌, length, get_or, decimal, refl, sym, ap, ◌∙◌, arith, lit<, ℤ, pos, negsuc, unsigned_abs}
use Rattle.std.proofs.{lemmas.Bool.{both_ways, false_from_ne_true, and_parts, not-true}, lemmas.Bool.Decides.{nat_tests}, lemmas.List.{get_or_default}}
use Rattle.std.proofs.lemmas.List.Folds.{list_any-append, list_any_none, list_any_at}
use Rattle.std.proofs.lemmas.List.Splits.{slice_split_at, slice_split_none, join_with_byte-slice_split}
use Rattle.std.specs.{Fmt.{signed_decimal}, List.{All, list_any, join_with_byte}}
use Rattle.mdp_math.specs.Rational.{ℚ}
use Rattle.mdp_num.specs.Value.{spelling, IsNarrow}
use Rattle.mdp_num.proofs.Plain.{decimal-plain, digit-at, digit-bounds}
use Rattle.mdp_rows.specs.Name.{is_name}
use Rattle.mdp_text.specs.{Spelling.{◌␣◌}, Words.{is_blank, words}}

-- ---- texts without the byte c

abbrev pub Free : ℕ → List ℕ → Type 0
Free c text = list_any (λ x. eqb x c) text ≡ false

or-false : (a b : Bool) → a ≡ false → b ≡ false → (a || b) ≡ false
or-false a b p q = rw (p, q) refl

pub free-append : (c : ℕ) (xs ys : List ℕ) → Free c xs → Free c ys → Free c (xs ++ ys)
free-append c xs ys p q = list_any-append (λ x. eqb x c) xs ys ∙ or-false _ _ p q

pub free-all : (c : ℕ) (xs : List ℕ) → Free c xs → All (λ x. eqb x c ≡ false) xs
free-all c xs h = λ k d lt. false_from_ne_true _ (λ t. both_ways (list_any (λ x. eqb x c) xs) h (list_any_at (λ x. eqb x c) xs k d lt t))

width-small : (n : ℕ) → n < 2 ^ 127 → n < 10 ^ 64
width-small n h = let p : 2 ^ 127 < 10 ^ 64 = lit< tt in omega (arith, p)

pub whole-small : (n : ℕ) → n < 2 ^ 32 → n < 2 ^ 127
whole-small n h = let p : 2 ^ 32 < 2 ^ 127 = lit< tt in omega (arith, p)

pub free-decimal : (c n : ℕ) → c < 48 → n < 2 ^ 127 → Free c (decimal n)
free-decimal c n lt h =
    let p = decimal-plain n (width-small n h) in
    list_any_none (λ x. eqb x c) (decimal n) (λ k d l.
    let same : get_or (decimal n) k d ≡ get_or (decimal n) k 0 = get_or_default (decimal n) k d 0 l in
    rw same (other (get_or (decimal n) k 0) (digit-bounds (get_or (decimal n) k 0) (digit-at (decimal n) k p.digits l)).0))
  where
    other : (x : ℕ) → 48 ≤ x → eqb x c ≡ false
    other x le = grind (arith, nat_tests)

free-signed : (c : ℕ) (z : ℤ) → c < 45 → unsigned_abs z < 2 ^ 127 → Free c (signed_decimal z)
free-signed c (pos n) lt h = free-decimal c n (omega arith) h
free-signed c (negsuc n) lt h = or-false (eqb 45 c) (list_any (λ x. eqb x c) (decimal (suc n))) (grind (arith, nat_tests)) (free-decimal c (suc n) (omega arith) h)

pub free-spelling : (c : ℕ) (x : ℚ) → c < 45 → IsNarrow x → Free c (spelling x)
unfolding spelling
free-spelling c x lt h = by (eqb x.den 1)
  where
    by : (b : Bool) → Free c (cond b (signed_decimal x.num) (signed_decimal x.num ++ 47 ∷ decimal x.den))
    by true = free-signed c x.num lt h.top
    by false = free-append c (signed_decimal x.num) (47 ∷ decimal x.den) (free-signed c x.num lt h.top)
        (or-false (eqb 47 c) (list_any (λ y. eqb y c) (decimal x.den)) (grind (arith, nat_tests)) (free-decimal c x.den (omega arith) h.bottom))

-- a name has no quote and no line feed
without : (c : ℕ) (xs : List ℕ) → ((x : ℕ) → eqb x c ≡ true → (eqb x 34 || eqb x 10) ≡ true) → list_any (λ b. eqb b 34 || eqb b 10) xs ≡ false → Free c xs
without c xs of h =
    list_any_none (λ x. eqb x c) xs (λ k d lt. false_from_ne_true _ (λ t. both_ways _ h (list_any_at (λ b. eqb b 34 || eqb b 10) xs k d lt (of (get_or xs k d) t))))

or-second : (a b : Bool) → b ≡ true → (a || b) ≡ true
or-second true b e = refl
or-second false b e = e

or-first : (a b : Bool) → a ≡ true → (a || b) ≡ true
or-first a b e = rw e refl

pub free-name : (name : List ℕ) → is_name name ≡ true → Free 10 name
free-name name h = without 10 name (λ x t. or-second (eqb x 34) (eqb x 10) t) (not-true _ (and_parts _ _ h).1)

pub quote-free-name : (name : List ℕ) → is_name name ≡ true → Free 34 name
quote-free-name name h = without 34 name (λ x t. or-first (eqb x 34) (eqb x 10) t) (not-true _ (and_parts _ _ h).1)

-- ---- words

pub words-more : (a b : List ℕ) → Free 32 a → words (a ␣ b) ≡ a ∷ words b
words-more a b p = slice_split_at is_blank a 32 b (free-all 32 a p) refl

pub words-last : (a : List ℕ) → Free 32 a → words a ≡ a ∷ []
words-last a p = slice_split_none is_blank a (free-all 32 a p)

pub words-joined : (text : List ℕ) (ws : List (List ℕ)) → words text ≡ ws → text ≡ join_with_byte 32 ws
words-joined text ws e = sym (join_with_byte-slice_split 32 text) ∙ ap (join_with_byte 32) e

pub decimal-some : (n : ℕ) → n < 2 ^ 32 → 0 < length (decimal n)
decimal-some n h = (decimal-plain n (width-small n (whole-small n h))).some
