-- Digits: the zeros at the end of two parts, and numbers up to a cap.
use Rattle.std.proofs.Common.{◌≡◌, ℕ, suc, ◌+◌, ◌-◌, ◌*◌, ◌<◌, ◌≤◌, Bool, true, false, cond, eqb, List, []}
use Rattle.std.proofs.Common.{◌∷◌, ◌++◌, length, take, reverse, get_or, min, refl, sym, ap, ◌∙◌, inl, inr, arith}
use Rattle.std.proofs.lemmas.List.{reverse-append, length-reverse, length-append, append-nil, take-append-le, take_more}
use Rattle.std.proofs.{lemmas.List.Folds.{prefix_len-append}, lemmas.Bool.{cases_lt}, lemmas.Bool.Decides.{nat_tests}}
use Rattle.std.specs.List.{prefix_len, suffix_len}
use Rattle.mdp_num.specs.{Digits.{number_after}, Numeral.{zeros_behind, significant}}

suffix_len-append : (p : ℕ → Bool) (xs ys : List ℕ) → suffix_len p (xs ++ ys) ≡ cond (eqb (suffix_len p ys) (length ys)) (length ys + suffix_len p xs) (suffix_len p ys)
suffix_len-append p xs ys = ap (prefix_len p) (reverse-append xs ys) ∙ prefix_len-append p (reverse ys) (reverse xs)
    ∙ ap (λ (n : ℕ). cond (eqb (suffix_len p ys) n) (n + suffix_len p xs) (suffix_len p ys)) (length-reverse ys)

take-past : (xs ys : List ℕ) (k : ℕ) → take (length xs + k) (xs ++ ys) ≡ xs ++ take k ys
take-past [] ys k = ap (λ (n : ℕ). take n ys) (omega arith)
take-past (x ∷ xs) ys k = let e : suc (length xs) + k ≡ suc (length xs + k) = omega arith in rw e (ap (λ (zs : List ℕ). x ∷ zs) (take-past xs ys k))

-- the places end in another digit
pub significant-some : (xs ys : List ℕ) (z : ℕ) → z ≡ zeros_behind ys → z < length ys → xs ++ take (length ys - z) ys ≡ significant (xs ++ ys)
significant-some xs ys z is lt =
    let test : eqb (zeros_behind ys) (length ys) ≡ false = grind (arith, nat_tests) in
    let e : zeros_behind (xs ++ ys) ≡ z = suffix_len-append (λ c. eqb c 48) xs ys ∙ ap (λ (b : Bool). cond b (length ys + zeros_behind xs) (zeros_behind ys)) test ∙ sym is in
    let n : length (xs ++ ys) - zeros_behind (xs ++ ys) ≡ length xs + (length ys - z) = omega (arith, e, length-append xs ys) in
    sym (ap (λ (k : ℕ). take k (xs ++ ys)) n ∙ take-past xs ys (length ys - z))

-- the places are zeros
pub zeros-all : (xs ys : List ℕ) → zeros_behind ys ≡ length ys → zeros_behind (xs ++ ys) ≡ length ys + zeros_behind xs
zeros-all xs ys is =
    let test : eqb (zeros_behind ys) (length ys) ≡ true = grind (arith, nat_tests) in
    suffix_len-append (λ c. eqb c 48) xs ys ∙ ap (λ (b : Bool). cond b (length ys + zeros_behind xs) (zeros_behind ys)) test

pub zeros-some : (xs ys : List ℕ) → zeros_behind ys < length ys → zeros_behind (xs ++ ys) ≡ zeros_behind ys
zeros-some xs ys lt =
    let test : eqb (zeros_behind ys) (length ys) ≡ false = grind (arith, nat_tests) in
    suffix_len-append (λ c. eqb c 48) xs ys ∙ ap (λ (b : Bool). cond b (length ys + zeros_behind xs) (zeros_behind ys)) test

pub significant-none : (xs ys : List ℕ) (z : ℕ) → z ≡ zeros_behind xs → zeros_behind ys ≡ length ys → take (length xs - z) xs ++ [] ≡ significant (xs ++ ys)
significant-none xs ys z is all =
    let e = zeros-all xs ys all in
    let n : length (xs ++ ys) - zeros_behind (xs ++ ys) ≡ length xs - z = omega (arith, e, length-append xs ys) in
    append-nil (take (length xs - z) xs) ∙ sym (ap (λ (k : ℕ). take k (xs ++ ys)) n ∙ take-append-le (length xs - z) xs ys (omega arith))

-- ---- numbers

pub number_after-append : (n : ℕ) (xs ys : List ℕ) → number_after n (xs ++ ys) ≡ number_after (number_after n xs) ys
number_after-append n [] ys = refl
number_after-append n (x ∷ xs) ys = number_after-append (n * 10 + (x - 48)) xs ys

pub number_after-ge : (n : ℕ) (ds : List ℕ) → n ≤ number_after n ds
number_after-ge n [] = omega arith
number_after-ge n (d ∷ ds) = omega (arith, number_after-ge (n * 10 + (d - 48)) ds)

pub number_after-more : (n : ℕ) (ds : List ℕ) (i : ℕ) → i < length ds → number_after n (take (i + 1) ds) ≡ number_after n (take i ds) * 10 + (get_or ds i 0 - 48)
number_after-more n ds i lt = ap (number_after n) (take_more ds i 0 lt) ∙ number_after-append n (take i ds) (get_or ds i 0 ∷ [])

-- one digit more, up to a cap
pub capped-more : (n : ℕ) (ds : List ℕ) (i cap so_far : ℕ) → i < length ds → so_far ≡ min (number_after n (take i ds)) cap
    → min (so_far * 10 + (get_or ds i 0 - 48)) cap ≡ min (number_after n (take (i + 1) ds)) cap
capped-more n ds i cap so_far lt is = omega (arith, number_after-more n ds i lt)

-- a cap on the number before is a cap
pub capped-twice : (n cap : ℕ) (xs ys : List ℕ) → min (number_after (min (number_after n xs) cap) ys) cap ≡ min (number_after n (xs ++ ys)) cap
capped-twice n cap xs ys =
    elim (cases_lt (number_after n xs) cap) [
      | inl lt ↦ let e : min (number_after n xs) cap ≡ number_after n xs = omega arith in rw (e, number_after-append n xs ys) refl
      | inr le ↦ let e : min (number_after n xs) cap ≡ cap = omega arith in rw (e, number_after-append n xs ys) (omega (arith, number_after-ge cap ys, number_after-ge (number_after n xs) ys))
    ]
