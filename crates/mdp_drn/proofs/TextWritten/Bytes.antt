-- Bytes that pass a test, in texts that are put together.
use Rattle.std.proofs.Common.{◌≡◌, ℕ, suc, ◌+◌, ◌-◌, Bool, true, false, not, cond, eqb, ltb, ◌&&◌, ◌||◌, List, [], ◌∷◌, ◌++◌, length, take, drop}
use Rattle.std.proofs.{Common.{reverse, append_assoc, get_or, refl, sym, ap, ap₂, ◌∙◌, arith}, lemmas.List.{take_at, drop_at, reverse-append, length-append}}
use Rattle.std.proofs.{Math.Seq.{get_or-append_seam}, lemmas.List.Folds.{list_all-append}, lemmas.Bool.Decides.{nat_tests}}
use Rattle.std.specs.{List.{list_all, list_any, prefix_len, suffix_len, after_last, slice_split, onto_first}, Io.BufRead.{ends_with_byte, strip_last}}

abbrev pub Pass : (ℕ → Bool) → List ℕ → Type 0
Pass p xs = list_all p xs ≡ true

abbrev pub Fail : (ℕ → Bool) → List ℕ → Type 0
Fail p xs = list_all (λ c. not (p c)) xs ≡ true

-- ---- tests

pub and-parts : (a b : Bool) → (a && b) ≡ true → (a ≡ true) × (b ≡ true)
and-parts true b e = (refl, e)
and-parts false b e = absurd cc

pub and-both : (a b : Bool) → a ≡ true → b ≡ true → (a && b) ≡ true
and-both a b p q = rw (p, q) refl

pub not-true : (b : Bool) → not b ≡ true → b ≡ false
not-true true e = absurd cc
not-true false e = refl

pub not-false : (b : Bool) → b ≡ false → not b ≡ true
not-false b e = rw e refl

-- ---- tests on numbers

pub filled : (n : ℕ) → ltb 0 (suc n) ≡ true
filled n = grind (arith, nat_tests)

pub not_empty : (n : ℕ) → eqb (suc n) 0 ≡ false
not_empty n = grind (arith, nat_tests)

-- ---- all bytes of a text

pub pass-append : (p : ℕ → Bool) (xs ys : List ℕ) → Pass p xs → Pass p ys → Pass p (xs ++ ys)
pass-append p xs ys h k = list_all-append p xs ys ∙ and-both (list_all p xs) (list_all p ys) h k

pub pass-weaken : (p q : ℕ → Bool) → ((c : ℕ) → p c ≡ true → q c ≡ true) → (xs : List ℕ) → Pass p xs → Pass q xs
pass-weaken p q f [] h = refl
pass-weaken p q f (x ∷ xs) h = let a = and-parts (p x) (list_all p xs) h in and-both (q x) (list_all q xs) (f x a.0) (pass-weaken p q f xs a.1)

-- ---- up to the first byte that differs

pub prefix-stop : (p : ℕ → Bool) (xs : List ℕ) (y : ℕ) (ys : List ℕ) → Pass p xs → p y ≡ false → prefix_len p (xs ++ y ∷ ys) ≡ length xs
prefix-stop p [] y ys h e = ap (λ (b : Bool). cond b (1 + prefix_len p ys) 0) e
prefix-stop p (x ∷ xs) y ys h e =
    let a = and-parts (p x) (list_all p xs) h in
    ap (λ (b : Bool). cond b (1 + prefix_len p (xs ++ y ∷ ys)) 0) a.0 ∙ ap (λ (n : ℕ). 1 + n) (prefix-stop p xs y ys a.1 e) ∙ omega arith

pub prefix-none : (p : ℕ → Bool) (y : ℕ) (ys : List ℕ) → p y ≡ false → prefix_len p (y ∷ ys) ≡ 0
prefix-none p y ys e = ap (λ (b : Bool). cond b (1 + prefix_len p ys) 0) e

pub prefix-all : (p : ℕ → Bool) (xs : List ℕ) → Pass p xs → prefix_len p xs ≡ length xs
prefix-all p [] h = refl
prefix-all p (x ∷ xs) h =
    let a = and-parts (p x) (list_all p xs) h in
    ap (λ (b : Bool). cond b (1 + prefix_len p xs) 0) a.0 ∙ ap (λ (n : ℕ). 1 + n) (prefix-all p xs a.1) ∙ omega arith

pub all-prefix : (p : ℕ → Bool) (xs : List ℕ) → prefix_len p xs ≡ length xs → Pass p xs
all-prefix p [] h = refl
all-prefix p (x ∷ xs) h = by (p x) refl (all-prefix p xs)
  where
    by : (b : Bool) → p x ≡ b → (prefix_len p xs ≡ length xs → Pass p xs) → Pass p (x ∷ xs)
    by true e rest = let n : 1 + prefix_len p xs ≡ suc (length xs) = sym (ap (λ (b : Bool). cond b (1 + prefix_len p xs) 0) e) ∙ h in and-both (p x) (list_all p xs) e (rest (omega arith))
    by false e rest = let n : 0 ≡ suc (length xs) = sym (ap (λ (b : Bool). cond b (1 + prefix_len p xs) 0) e) ∙ h in absurd (omega arith)

pub take-stop : (p : ℕ → Bool) (xs : List ℕ) (y : ℕ) (ys : List ℕ) → Pass p xs → p y ≡ false → take (prefix_len p (xs ++ y ∷ ys)) (xs ++ y ∷ ys) ≡ xs
take-stop p xs y ys h e = take_at xs (y ∷ ys) (prefix_len p (xs ++ y ∷ ys)) (sym (prefix-stop p xs y ys h e))

pub drop-stop : (p : ℕ → Bool) (xs : List ℕ) (y : ℕ) (ys : List ℕ) → Pass p xs → p y ≡ false → drop (prefix_len p (xs ++ y ∷ ys)) (xs ++ y ∷ ys) ≡ y ∷ ys
drop-stop p xs y ys h e = drop_at xs (y ∷ ys) (prefix_len p (xs ++ y ∷ ys)) (sym (prefix-stop p xs y ys h e))

-- ---- a cut at each byte that passes

pub split-at : (p : ℕ → Bool) (xs : List ℕ) (y : ℕ) (ys : List ℕ) → Fail p xs → p y ≡ true → slice_split p (xs ++ y ∷ ys) ≡ xs ∷ slice_split p ys
split-at p [] y ys h e = ap (λ (b : Bool). cond b ([] ∷ slice_split p ys) (onto_first y (slice_split p ys))) e
split-at p (x ∷ xs) y ys h e =
    let a = and-parts (not (p x)) (list_all (λ c. not (p c)) xs) h in
    ap (λ (b : Bool). cond b ([] ∷ slice_split p (xs ++ y ∷ ys)) (onto_first x (slice_split p (xs ++ y ∷ ys)))) (not-true (p x) a.0)
    ∙ ap (onto_first x) (split-at p xs y ys a.1 e)

pub split-none : (p : ℕ → Bool) (xs : List ℕ) → Fail p xs → slice_split p xs ≡ xs ∷ []
split-none p [] h = refl
split-none p (x ∷ xs) h =
    let a = and-parts (not (p x)) (list_all (λ c. not (p c)) xs) h in
    ap (λ (b : Bool). cond b ([] ∷ slice_split p xs) (onto_first x (slice_split p xs))) (not-true (p x) a.0) ∙ ap (onto_first x) (split-none p xs a.1)

-- ---- some byte

pub any-middle : (p : ℕ → Bool) (xs : List ℕ) (y : ℕ) (ys : List ℕ) → p y ≡ true → list_any p (xs ++ y ∷ ys) ≡ true
any-middle p [] y ys e = rw e refl
any-middle p (x ∷ xs) y ys e = by (p x) (any-middle p xs y ys e)
  where
    by : (b : Bool) → list_any p (xs ++ y ∷ ys) ≡ true → (b || list_any p (xs ++ y ∷ ys)) ≡ true
    by true h = refl
    by false h = h

pub any-none : (p : ℕ → Bool) (xs : List ℕ) → Fail p xs → list_any p xs ≡ false
any-none p [] h = refl
any-none p (x ∷ xs) h =
    let a = and-parts (not (p x)) (list_all (λ c. not (p c)) xs) h in
    rw (not-true (p x) a.0) (any-none p xs a.1)

pub none-any : (p : ℕ → Bool) (xs : List ℕ) → list_any p xs ≡ false → Fail p xs
none-any p [] h = refl
none-any p (x ∷ xs) h = by (p x) refl h (none-any p xs)
  where
    by : (b : Bool) → p x ≡ b → (b || list_any p xs) ≡ false → (list_any p xs ≡ false → Fail p xs) → Fail p (x ∷ xs)
    by true e h rest = absurd cc
    by false e h rest = and-both (not (p x)) (list_all (λ c. not (p c)) xs) (not-false (p x) e) (rest h)

-- ---- from the end

pub pass-reverse : (p : ℕ → Bool) (xs : List ℕ) → Pass p xs → Pass p (reverse xs)
pass-reverse p [] h = refl
pass-reverse p (x ∷ xs) h =
    let a = and-parts (p x) (list_all p xs) h in
    let b : Pass p (x ∷ []) = and-both (p x) true a.0 refl in
    let e : reverse (x ∷ xs) ≡ reverse xs ++ x ∷ [] = reverse-append (x ∷ []) xs in
    ap (list_all p) e ∙ pass-append p (reverse xs) (x ∷ []) (pass-reverse p xs a.1) b

pub length-reversed : (xs : List ℕ) → length (reverse xs) ≡ length xs
length-reversed [] = refl
length-reversed (x ∷ xs) =
    let e : reverse (x ∷ xs) ≡ reverse xs ++ x ∷ [] = reverse-append (x ∷ []) xs in ap length e ∙ length-append (reverse xs) (x ∷ []) ∙ (let r = length-reversed xs in omega arith)

pub suffix-stop : (p : ℕ → Bool) (xs : List ℕ) (y : ℕ) (ys : List ℕ) → p y ≡ false → Pass p ys → suffix_len p (xs ++ y ∷ ys) ≡ length ys
suffix-stop p xs y ys e h =
    let r : reverse (xs ++ y ∷ ys) ≡ reverse ys ++ y ∷ reverse xs =
    reverse-append xs (y ∷ ys) ∙ ap (λ (zs : List ℕ). zs ++ reverse xs) (reverse-append (y ∷ []) ys) ∙ append_assoc (reverse ys) (y ∷ []) (reverse xs) in
    ap (prefix_len p) r ∙ prefix-stop p (reverse ys) y (reverse xs) (pass-reverse p ys h) e ∙ length-reversed ys

-- behind the last byte that passes
pub behind-last : (p : ℕ → Bool) (xs : List ℕ) (y : ℕ) (ys : List ℕ) → p y ≡ true → Fail p ys → after_last p (xs ++ y ∷ ys) ≡ ys
behind-last p xs y ys e h =
    let s : suffix_len (λ c. not (p c)) (xs ++ y ∷ ys) ≡ length ys = suffix-stop (λ c. not (p c)) xs y ys (ap not e) h in
    let n : length (xs ++ y ∷ ys) - suffix_len (λ c. not (p c)) (xs ++ y ∷ ys) ≡ length xs + 1 = omega (arith, s, length-append xs (y ∷ ys)) in
    let r : xs ++ y ∷ ys ≡ (xs ++ y ∷ []) ++ ys = sym (append_assoc xs (y ∷ []) ys) in
    let l : length (xs ++ y ∷ []) ≡ length xs + 1 = omega (arith, length-append xs (y ∷ [])) in
    ap (λ (k : ℕ). drop k (xs ++ y ∷ ys)) n ∙ ap (drop (length xs + 1)) r ∙ drop_at (xs ++ y ∷ []) ys (length xs + 1) l

-- a text that ends with this byte
pub ends-with : (c : ℕ) (xs : List ℕ) (y : ℕ) → ends_with_byte c (xs ++ y ∷ []) ≡ eqb y c
ends-with c xs y =
    let l : length (xs ++ y ∷ []) ≡ length xs + 1 = length-append xs (y ∷ []) in
    let n : length (xs ++ y ∷ []) - 1 ≡ length xs = omega arith in
    ap₂ (λ (m k : ℕ). ltb 0 m && eqb (get_or (xs ++ y ∷ []) k 0) c) l n
    ∙ ap₂ (λ (b : Bool) (k : ℕ). b && eqb k c) (some (length xs)) (get_or-append_seam xs y [] 0)
  where
    some : (n : ℕ) → ltb 0 (n + 1) ≡ true
    some n = grind (arith, nat_tests)

pub strip-other : (c : ℕ) (xs : List ℕ) (y : ℕ) → eqb y c ≡ false → strip_last c (xs ++ y ∷ []) ≡ xs ++ y ∷ []
strip-other c xs y e = ap (λ (b : Bool). cond b (take (length (xs ++ y ∷ []) - 1) (xs ++ y ∷ [])) (xs ++ y ∷ [])) (ends-with c xs y ∙ e)
