-- A place among ascending ones.
use Rattle.std.proofs.Common.{◌≡◌, ◌≢◌, ℕ, suc, ◌+◌, ◌<◌, ◌≤◌, Bool, true, false, cond, not, eqb, eq-eqb, leb, ltb, lt-ltb, le-ltb, List, [], ◌∷◌, ◌++◌, length, take}
use Rattle.std.proofs.{Common.{drop, get_or, refl, sym, ap, ap₂, ◌∙◌, arith, if◌then◌else◌}, lemmas.Bool.{ne_eqb}}
use Rattle.std.specs.List.{position_or_len}
use borrow.Author.Tests.{leb-true, leb-false}
use Rattle.mdp_rows.specs.Draft.{with_place}

abbrev pub place_in : ℕ → List ℕ → ℕ
place_in l xs = position_or_len (λ k. leb l k) xs

-- the three cases at the head
head_is : (l k : ℕ) (ks : List ℕ) (a b : Bool) → eqb l k ≡ a → ltb l k ≡ b → with_place l (k ∷ ks) ≡ (if a then k ∷ ks else (if b then l ∷ k ∷ ks else k ∷ with_place l ks))
head_is l k ks a b e f = ap₂ (λ (x y : Bool). if x then k ∷ ks else (if y then l ∷ k ∷ ks else k ∷ with_place l ks)) e f

-- put at a place, or not where it stands there
abbrev pub put : ℕ → ℕ → List ℕ → List ℕ
put i l xs = take i xs ++ l ∷ drop i xs

module _ (l k : ℕ) (ks : List ℕ) where
  first_place : (b : Bool) → leb l k ≡ b → place_in l (k ∷ ks) ≡ cond (not b) (1 + place_in l ks) 0
  first_place b e = ap (λ (x : Bool). cond (not x) (1 + place_in l ks) 0) e

  later : leb l k ≡ false → place_in l (k ∷ ks) ≡ suc (place_in l ks)
  later e = let p = first_place false e in omega arith

  here : leb l k ≡ true → place_in l (k ∷ ks) ≡ 0
  here e = first_place true e

  passed : leb l k ≡ false → with_place l (k ∷ ks) ≡ k ∷ with_place l ks
  passed e = let h = leb-false l k e in head_is l k ks false false (ne_eqb l k (λ s. omega arith)) (le-ltb l k (omega arith))

  stands : k ≡ l → with_place l (k ∷ ks) ≡ k ∷ ks
  stands e = head_is l k ks true (ltb l k) (eq-eqb l k (sym e)) refl

  goes_first : leb l k ≡ true → k ≢ l → with_place l (k ∷ ks) ≡ l ∷ k ∷ ks
  goes_first e n = let h = leb-true l k e in head_is l k ks false true (ne_eqb l k (λ s. n (sym s))) (lt-ltb l k (omega arith))

mutual_by : (l k : ℕ) (ks : List ℕ) (b : Bool) (d : ℕ) → leb l k ≡ b → place_in l (k ∷ ks) < suc (length ks) → get_or (k ∷ ks) (place_in l (k ∷ ks)) d ≡ l
    → (place_in l ks < length ks → get_or ks (place_in l ks) d ≡ l → with_place l ks ≡ ks) → with_place l (k ∷ ks) ≡ k ∷ ks
mutual_by l k ks true d e h g rest = stands l k ks (ap (λ (i : ℕ). get_or (k ∷ ks) i d) (sym (here l k ks e)) ∙ g)
mutual_by l k ks false d e h g rest =
    let p = later l k ks e in
    passed l k ks e ∙ ap (λ (x : List ℕ). k ∷ x) (rest (omega arith) (ap (λ (i : ℕ). get_or (k ∷ ks) i d) (sym p) ∙ g))

pub with_present : (l : ℕ) (xs : List ℕ) (d : ℕ) → place_in l xs < length xs → get_or xs (place_in l xs) d ≡ l → with_place l xs ≡ xs
with_present l [] d h g = absurd (omega arith)
with_present l (k ∷ ks) d h g = mutual_by l k ks (leb l k) d refl h g (with_present l ks d)

absent_by : (l k : ℕ) (ks : List ℕ) (b : Bool) (d : ℕ) → leb l k ≡ b → (place_in l (k ∷ ks) < suc (length ks) → get_or (k ∷ ks) (place_in l (k ∷ ks)) d ≢ l)
    → ((place_in l ks < length ks → get_or ks (place_in l ks) d ≢ l) → with_place l ks ≡ put (place_in l ks) l ks) → with_place l (k ∷ ks) ≡ put (place_in l (k ∷ ks)) l (k ∷ ks)
absent_by l k ks true d e g rest =
    let p = here l k ks e in
    goes_first l k ks e (λ s. g (omega arith) (ap (λ (i : ℕ). get_or (k ∷ ks) i d) p ∙ s)) ∙ ap (λ (i : ℕ). put i l (k ∷ ks)) (sym p)
absent_by l k ks false d e g rest =
    let p = later l k ks e in
    passed l k ks e ∙ ap (λ (x : List ℕ). k ∷ x) (rest (λ h s. g (omega arith) (ap (λ (i : ℕ). get_or (k ∷ ks) i d) p ∙ s))) ∙ ap (λ (i : ℕ). put i l (k ∷ ks)) (sym p)

pub with_absent : (l : ℕ) (xs : List ℕ) (d : ℕ) → (place_in l xs < length xs → get_or xs (place_in l xs) d ≢ l) → with_place l xs ≡ put (place_in l xs) l xs
with_absent l [] d g = refl
with_absent l (k ∷ ks) d g = absent_by l k ks (leb l k) d refl g (with_absent l ks d)

length_by : (l k : ℕ) (ks : List ℕ) (a b : Bool) → length (with_place l ks) ≤ suc (length ks) → length (if a then k ∷ ks else (if b then l ∷ k ∷ ks else k ∷ with_place l ks)) ≤ suc (suc (length ks))
length_by l k ks true b h = omega arith
length_by l k ks false true h = omega arith
length_by l k ks false false h = omega arith

pub length-with_place : (l : ℕ) (xs : List ℕ) → length (with_place l xs) ≤ suc (length xs)
length-with_place l [] = omega arith
length-with_place l (k ∷ ks) = length_by l k ks (eqb l k) (ltb l k) (length-with_place l ks)

le_by : (b : Bool) (n m : ℕ) → n ≤ m → cond (not b) (1 + n) 0 ≤ suc m
le_by true n m h = omega arith
le_by false n m h = omega arith

pub place-le : (l : ℕ) (xs : List ℕ) → place_in l xs ≤ length xs
place-le l [] = omega arith
place-le l (k ∷ ks) = le_by (leb l k) (place_in l ks) (length ks) (place-le l ks)
