-- The names of labels when one more is given, and its place.
use Rattle.std.proofs.Common.{◌≡◌, ℕ, suc, ◌+◌, ◌≤◌, ◌<◌, Bool, true, false, cond, not, ◌||◌, IsTrue}
use Rattle.std.proofs.{Common.{List, [], ◌∷◌, ◌++◌, length, refl, sym, ap, ap₂, ◌∙◌, arith, if◌then◌else◌, length-append}, lemmas.Slice.Eq.{bytes_eq-Decides}}
use Rattle.std.proofs.{lemmas.List.Elements.{All-push}, lemmas.List.Folds.{list_any-append}}
use Rattle.std.proofs.lemmas.Bool.{false_from_ne_true, or_parts, not-true, not_from_false}
use Rattle.std.specs.{List.{All, list_any, position_or_len}, Str.{bytes_eq}}
use Rattle.mdp_math.proofs.Booleans.{and-both, and-left, and-right}
use Rattle.mdp_rows.specs.{Draft.{with_name}, Name.{IsName, are_different}}

-- ---- whether a name is there

passes_by : (b rest : Bool) (n m : ℕ) → cond (not b) (1 + n) 0 < suc m → (n < m → rest ≡ true) → (b || rest) ≡ true
passes_by true rest n m h k = refl
passes_by false rest n m h k = k (omega arith)

fails_by : (b rest : Bool) (n m : ℕ) → suc m ≤ cond (not b) (1 + n) 0 → (m ≤ n → rest ≡ false) → (b || rest) ≡ false
fails_by true rest n m h k = absurd (omega arith)
fails_by false rest n m h k = k (omega arith)

found_by : (b rest : Bool) (n m : ℕ) → (b || rest) ≡ true → (rest ≡ true → n < m) → cond (not b) (1 + n) 0 < suc m
found_by true rest n m h k = omega arith
found_by false rest n m h k = let l : n < m = k h in omega arith

missed_by : (b rest : Bool) (n m : ℕ) → (b || rest) ≡ false → (rest ≡ false → n ≡ m) → cond (not b) (1 + n) 0 ≡ suc m
missed_by true rest n m h k = absurd cc
missed_by false rest n m h k = let l : n ≡ m = k h in omega arith

module _ {X : Type 0} (p : X → Bool) where
  pub some_passes : (xs : List X) → position_or_len p xs < length xs → list_any p xs ≡ true
  some_passes [] h = absurd (omega arith)
  some_passes (x ∷ xs) h = passes_by (p x) (list_any p xs) (position_or_len p xs) (length xs) h (some_passes xs)

  pub none_passes : (xs : List X) → length xs ≤ position_or_len p xs → list_any p xs ≡ false
  none_passes [] h = refl
  none_passes (x ∷ xs) h = fails_by (p x) (list_any p xs) (position_or_len p xs) (length xs) h (none_passes xs)

  -- it has a place
  pub place_found : (xs : List X) → list_any p xs ≡ true → position_or_len p xs < length xs
  place_found [] h = absurd cc
  place_found (x ∷ xs) h = found_by (p x) (list_any p xs) (position_or_len p xs) (length xs) h (place_found xs)

  -- it would have the next
  pub place_missed : (xs : List X) → list_any p xs ≡ false → position_or_len p xs ≡ length xs
  place_missed [] h = refl
  place_missed (x ∷ xs) h = missed_by (p x) (list_any p xs) (position_or_len p xs) (length xs) h (place_missed xs)

pub known_name : (names : List (List ℕ)) (name : List ℕ) → list_any (bytes_eq name) names ≡ true → with_name names name ≡ names
known_name names name e = ap (λ (b : Bool). if b then names else names ++ name ∷ []) e

pub new_name : (names : List (List ℕ)) (name : List ℕ) → list_any (bytes_eq name) names ≡ false → with_name names name ≡ names ++ name ∷ []
new_name names name e = ap (λ (b : Bool). if b then names else names ++ name ∷ []) e

pub length-new_name : (names : List (List ℕ)) (name : List ℕ) → list_any (bytes_eq name) names ≡ false → length (with_name names name) ≡ length names + 1
length-new_name names name e = ap length (new_name names name e) ∙ length-append names (name ∷ [])

-- ---- the names stay different

pub other_way : (a b : List ℕ) → bytes_eq a b ≡ false → bytes_eq b a ≡ false
other_way a b e =
    false_from_ne_true (bytes_eq b a) (λ t. (let s : b ≡ a = (bytes_eq-Decides b a).0 t in let u : bytes_eq a b ≡ true = (bytes_eq-Decides a b).1 (sym s) in absurd cc))

none_more : (name new : List ℕ) (names : List (List ℕ)) → list_any (bytes_eq name) names ≡ false → bytes_eq name new ≡ false → list_any (bytes_eq name) (names ++ new ∷ []) ≡ false
none_more name new names e f = list_any-append (bytes_eq name) names (new ∷ []) ∙ ap₂ (λ (a b : Bool). a || (b || false)) e f

pub different-push : (names : List (List ℕ)) (new : List ℕ) → IsTrue (are_different names) → list_any (bytes_eq new) names ≡ false → IsTrue (are_different (names ++ new ∷ []))
different-push [] new d e = refl
different-push (name ∷ names) new d e =
    let p = or_parts (bytes_eq new name) (list_any (bytes_eq new) names) e in
    let first : list_any (bytes_eq name) names ≡ false = not-true (list_any (bytes_eq name) names) (and-left (not (list_any (bytes_eq name) names)) (are_different names) d) in
    and-both (not (list_any (bytes_eq name) (names ++ new ∷ []))) (are_different (names ++ new ∷ []))
    (not_from_false (list_any (bytes_eq name) (names ++ new ∷ [])) (none_more name new names first (other_way new name p.0)))
    (different-push names new (and-right (not (list_any (bytes_eq name) names)) (are_different names) d) p.1)

by_new : (P : List (List ℕ) → Type 0) (names : List (List ℕ)) (name : List ℕ) (b : Bool) → list_any (bytes_eq name) names ≡ b → P names
    → (list_any (bytes_eq name) names ≡ false → P (names ++ name ∷ [])) → P (if b then names else names ++ name ∷ [])
by_new P names name true e old new = old
by_new P names name false e old new = new e

pub names_with : (names : List (List ℕ)) (name : List ℕ) → All IsName names → IsName name → All IsName (with_name names name)
names_with names name all h = by_new (All IsName) names name (list_any (bytes_eq name) names) refl all (λ e. All-push IsName names name all h)

pub different-with : (names : List (List ℕ)) (name : List ℕ) → IsTrue (are_different names) → IsTrue (are_different (with_name names name))
different-with names name d =
    by_new (λ ns. IsTrue (are_different ns)) names name (list_any (bytes_eq name) names) refl d (λ e. different-push names name d e)
