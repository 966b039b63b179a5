-- The laws of pieces.
use Rattle.std.proofs.Common.{◌≡◌, ℕ, zero, suc, ◌+◌, ◌-◌, ◌<◌, ◌≤◌, List, [], ◌∷◌, length, take, drop, get_or, add-one, refl, sym, ap, ◌∙◌, arith}
use Rattle.std.proofs.lemmas.List.{length-drop, length-take-le, get_or_default}
use Rattle.mdp_math.specs.Rational.{ℚ}
use Rattle.mdp_spec.specs.{Mdp.{Entry}, Row.{entries}}
use Rattle.mdp_rows.specs.Pieces.{piece, pieces, ArePlaces}

pub length-pieces : {A : Type 0} → (xs : List A) (places : List ℕ) → length (pieces xs places) ≡ length places - 1
length-pieces xs [] = refl
length-pieces xs (a ∷ []) = refl
length-pieces xs (a ∷ b ∷ places) = let e = length-pieces xs (b ∷ places) in omega (arith, e)

pub get_or-pieces : {A : Type 0} → (xs : List A) (places : List ℕ) (i : ℕ) → suc i < length places → get_or (pieces xs places) i [] ≡ piece xs (get_or places i 0) (get_or places (suc i) 0)
get_or-pieces xs [] i h = absurd (omega arith)
get_or-pieces xs (a ∷ []) i h = absurd (omega arith)
get_or-pieces xs (a ∷ b ∷ places) zero h = refl
get_or-pieces xs (a ∷ b ∷ places) (suc i) h = get_or-pieces xs (b ∷ places) i (omega arith)

-- a piece of entries is the entries of the pieces
pub entries-take : (n : ℕ) (ts : List ℕ) (ps : List ℚ) → entries (take n ts) (take n ps) ≡ take n (entries ts ps)
entries-take zero ts ps = refl
entries-take (suc n) [] ps = refl
entries-take (suc n) (t ∷ ts) [] = refl
entries-take (suc n) (t ∷ ts) (p ∷ ps) = ap (λ (r : List Entry). record { target = t; prob = p } ∷ r) (entries-take n ts ps)

entries-none : (ts : List ℕ) → entries ts [] ≡ []
entries-none [] = refl
entries-none (t ∷ ts) = refl

pub entries-drop : (n : ℕ) (ts : List ℕ) (ps : List ℚ) → entries (drop n ts) (drop n ps) ≡ drop n (entries ts ps)
entries-drop zero ts ps = refl
entries-drop (suc n) [] ps = refl
entries-drop (suc n) (t ∷ ts) [] = entries-none (drop n ts)
entries-drop (suc n) (t ∷ ts) (p ∷ ps) = entries-drop n ts ps

pub entries-piece : (ts : List ℕ) (ps : List ℚ) (a b : ℕ) → entries (piece ts a b) (piece ps a b) ≡ piece (entries ts ps) a b
entries-piece ts ps a b = entries-take (b - a) (drop a ts) (drop a ps) ∙ ap (take (b - a)) (entries-drop a ts ps)

pub length-entries : (ts : List ℕ) (ps : List ℚ) → length ts ≡ length ps → length (entries ts ps) ≡ length ts
length-entries [] ps e = refl
length-entries (t ∷ ts) [] e = absurd (omega arith)
length-entries (t ∷ ts) (p ∷ ps) e = let h = length-entries ts ps (omega arith) in omega (arith, h)

-- two places that are read, one after the other
pub record AreNext (places : List ℕ) (end i a b : ℕ) : Type 0 where
  pub place : i + 1 < length places
  pub ordered : a ≤ b
  pub within : b ≤ end
  pub first : a ≡ get_or places i 0
  pub second : b ≡ get_or places (i + 1) 0

pub next_places : (places : List ℕ) (end i a b : ℕ) → ArePlaces places end → i + 1 < length places → a ≡ get_or places i a → b ≡ get_or places (i + 1) b → AreNext places end i a b
next_places places end i a b ok h ea eb =
    let a-is : a ≡ get_or places i 0 = ea ∙ get_or_default places i a 0 (omega arith) in
    let b-is : b ≡ get_or places (i + 1) 0 = eb ∙ get_or_default places (i + 1) b 0 h in
    record {
      place = h;
      ordered = omega (arith, ok.ascending i h);
      within = omega (arith, ok.within (i + 1) h);
      first = a-is;
      second = b-is;
    }

-- the piece between them is the value's
pub piece_is : {A : Type 0} → (xs : List A) (places : List ℕ) (end i a b : ℕ) (v : List (List A)) → AreNext places end i a b → pieces xs places ≡ v → piece xs a b ≡ get_or v i []
piece_is xs places end i a b v f is =
    rw (f.first, f.second) (rw add-one (sym (get_or-pieces xs places i (let h = f.place in omega arith)))) ∙ ap (λ u. get_or u i []) is

pub piece_len : {A : Type 0} → (xs : List A) (a b : ℕ) → b ≤ length xs → length (piece xs a b) ≡ b - a
piece_len xs a b h = length-take-le (b - a) (drop a xs) (omega (arith, length-drop a xs))
