-- Pieces of a list that grows.
use Rattle.std.proofs.Common.{◌≡◌, subst, inl, inr, ℕ, suc, ◌+◌, ◌-◌, ◌<◌, ◌≤◌, List, [], ◌∷◌, ◌++◌}
use Rattle.std.proofs.Common.{length, take, drop, get_or, sum_by, refl, sym, ap, ap₂, ◌∙◌, arith, length-append, add-one}
use Rattle.std.proofs.{lemmas.List.{take-append-le, drop-append-le, length-drop, get_or_append_left}, lemmas.List.Sums.{sum_by-cons}, lemmas.Bool.{cases_lt}}
use Rattle.std.proofs.Math.Seq.{drop-append_seam, get_or-append_seam, take-length}
use Rattle.mdp_math.specs.Rational.{ℚ}
use Rattle.mdp_spec.specs.{Mdp.{Entry}, Row.{entries}}
use Rattle.mdp_rows.specs.Pieces.{piece, pieces, ArePlaces}
use Rattle.mdp_rows.proofs.Flat.Pieces.{piece_len}

-- the last of some places
abbrev pub last_of : ℕ → List ℕ → ℕ
last_of a [] = a
last_of a (b ∷ places) = last_of b places

pub last_of-get : (a : ℕ) (places : List ℕ) → last_of a places ≡ get_or (a ∷ places) (length places) 0
last_of-get a [] = refl
last_of-get a (b ∷ places) = last_of-get b places

-- a new place ends a new piece
pub pieces-snoc : {A : Type 0} → (xs : List A) (a : ℕ) (places : List ℕ) (n : ℕ) → pieces xs (a ∷ (places ++ n ∷ [])) ≡ pieces xs (a ∷ places) ++ piece xs (last_of a places) n ∷ []
pieces-snoc xs a [] n = refl
pieces-snoc xs a (b ∷ places) n = ap (λ (r : List (List _)). piece xs a b ∷ r) (pieces-snoc xs b places n)

piece-grown : {A : Type 0} → (xs ys : List A) (a b : ℕ) → a ≤ b → b ≤ length xs → piece (xs ++ ys) a b ≡ piece xs a b
piece-grown xs ys a b h k =
    ap (take (b - a)) (drop-append-le a xs ys (omega arith)) ∙ take-append-le (b - a) (drop a xs) ys (let l = length-drop a xs in omega arith)

-- places that don't descend and end within a list
abbrev pub Ascend : ℕ → List ℕ → ℕ → Type 0
Ascend a [] end = a ≤ end
Ascend a (b ∷ places) end = (a ≤ b) × Ascend b places end

ascend-le : (a : ℕ) (places : List ℕ) (end : ℕ) → Ascend a places end → a ≤ end
ascend-le a [] end h = h
ascend-le a (b ∷ places) end h = let k = ascend-le b places end h.1 in omega (arith, h.0, k)

pub ascend_from : (a : ℕ) (places : List ℕ) (end : ℕ) → ((i : ℕ) → suc i < length (a ∷ places) → get_or (a ∷ places) i 0 ≤ get_or (a ∷ places) (suc i) 0)
    → get_or (a ∷ places) (length places) 0 ≤ end → Ascend a places end
ascend_from a [] end h k = k
ascend_from a (b ∷ places) end h k = (h 0 (omega arith), ascend_from b places end (λ i l. h (suc i) (omega arith)) k)

-- what stands before a list grows stands after
pub pieces-grown : {A : Type 0} → (xs ys : List A) (a : ℕ) (places : List ℕ) → Ascend a places (length xs) → pieces (xs ++ ys) (a ∷ places) ≡ pieces xs (a ∷ places)
pieces-grown xs ys a [] h = refl
pieces-grown xs ys a (b ∷ places) h =
    ap₂ (λ p r. p ∷ r) (piece-grown xs ys a b h.0 (ascend-le b places (length xs) h.1)) (pieces-grown xs ys b places h.1)

-- how long the pieces are together
pub pieces-total : {A : Type 0} → (xs : List A) (a : ℕ) (places : List ℕ) → Ascend a places (length xs) → a + sum_by length (pieces xs (a ∷ places)) ≡ last_of a places
pieces-total xs a [] h = omega arith
pieces-total xs a (b ∷ places) h =
    let k = ascend-le b places (length xs) h.1 in
    let l = piece_len xs a b k in
    let s = sum_by-cons length (piece xs a b) (pieces xs (b ∷ places)) in
    let r = pieces-total xs b places h.1 in
    omega (arith, h.0)

pub piece-end : {A : Type 0} → (xs ys : List A) (m n : ℕ) → m ≡ length xs → n ≡ length (xs ++ ys) → piece (xs ++ ys) m n ≡ ys
piece-end xs ys m n e f =
    let k : n - m ≡ length ys = omega (arith, length-append xs ys) in
    rw (k, e, drop-append_seam) (take-length ys)

-- ---- places with one more at the end

old_place : (places : List ℕ) (n i : ℕ) → i < length places → get_or (places ++ n ∷ []) i 0 ≡ get_or places i 0
old_place places n i h = get_or_append_left places (n ∷ []) 0 i h

new_place : (places : List ℕ) (n i : ℕ) → i ≡ length places → get_or (places ++ n ∷ []) i 0 ≡ n
new_place places n i e = rw e (get_or-append_seam places n [] 0)

module _ (places : List ℕ) (m n : ℕ) (ok : ArePlaces places m) (h : m ≤ n) where
  more_ascending : (i : ℕ) → i + 1 < length places + 1 → get_or (places ++ n ∷ []) i 0 ≤ get_or (places ++ n ∷ []) (i + 1) 0
  more_ascending i l = elim (cases_lt (i + 1) (length places)) [
    | inl k ↦ (let a = old_place places n i (omega arith) in let b = old_place places n (i + 1) k in let o = ok.ascending i k in omega arith)
    | inr k ↦ (let a = old_place places n i (omega arith) in let b = new_place places n (i + 1) (omega arith) in let o = ok.within i (omega arith) in omega arith)
  ]

  more_within : (i : ℕ) → i < length places + 1 → get_or (places ++ n ∷ []) i 0 ≤ n
  more_within i l = elim (cases_lt i (length places)) [
    | inl k ↦ (let a = old_place places n i k in let o = ok.within i k in omega arith)
    | inr k ↦ (let b = new_place places n i (omega arith) in omega arith)
  ]

  pub places-more : ArePlaces (places ++ n ∷ []) n
  places-more =
      let k : length (places ++ n ∷ []) ≡ length places + 1 = length-append places (n ∷ []) in
      let some = ok.some in
      record {
        some = omega arith;
        first = old_place places n 0 ok.some ∙ ok.first;
        ascending = λ i l. more_ascending i (omega arith);
        within = λ i l. more_within i (omega arith);
        last = new_place places n (length (places ++ n ∷ []) - 1) (omega arith);
      }

pub one_place : ArePlaces (0 ∷ []) 0
one_place = record {
  some = omega arith;
  first = refl;
  ascending = λ i l. absurd (omega arith);
  within = λ i l. (let e : i ≡ 0 = omega arith in rw e (omega arith));
  last = refl;
}

-- the same facts as `Ascend`, with 0 first
pub record AreSteps (places : List ℕ) (end : ℕ) (rest : List ℕ) : Type 0 where
  pub whole : places ≡ 0 ∷ rest
  pub ascend : Ascend 0 rest end
  pub last : last_of 0 rest ≡ end

steps_of : (a : ℕ) (rest : List ℕ) (end : ℕ) → ArePlaces (a ∷ rest) end → AreSteps (a ∷ rest) end rest
steps_of a rest end ok =
    let z : a ≡ 0 = ok.first in
    let n : length (a ∷ rest) - 1 ≡ length rest = omega arith in
    let e : get_or (a ∷ rest) (length rest) 0 ≡ end = ap (λ (k : ℕ). get_or (a ∷ rest) k 0) (sym n) ∙ ok.last in
    record {
      whole = ap (λ (x : ℕ). x ∷ rest) z;
      ascend = subst (λ (x : ℕ). Ascend x rest end) z (ascend_from a rest end (λ i l. rw add-one at (ok.ascending i (omega arith))) (omega arith));
      last = ap (λ (x : ℕ). last_of x rest) (sym z) ∙ last_of-get a rest ∙ e;
    }

pub steps : (places : List ℕ) (end : ℕ) → ArePlaces places end → (rest : List ℕ) × AreSteps places end rest
steps [] end ok = absurd (let h = ok.some in omega arith)
steps (a ∷ rest) end ok = (rest, steps_of a rest end ok)

-- ---- the pieces of a list and of its places, each with more at the end

module _ {A : Type 0} (xs ys : List A) (places : List ℕ) (n : ℕ) (ok : ArePlaces places (length xs)) where
  pub pieces-more : n ≡ length (xs ++ ys) → pieces (xs ++ ys) (places ++ n ∷ []) ≡ pieces xs places ++ ys ∷ []
  pieces-more e =
      let s = steps places (length xs) ok in
      let r = s.0 in
      rw s.1.whole (pieces-snoc (xs ++ ys) 0 r n ∙ ap₂ (λ p q. p ++ q ∷ []) (pieces-grown xs ys 0 r s.1.ascend) (piece-end xs ys (last_of 0 r) n s.1.last e))

pub pieces-sum : {A : Type 0} → (xs : List A) (places : List ℕ) → ArePlaces places (length xs) → sum_by length (pieces xs places) ≡ length xs
pieces-sum xs places ok =
    let s = steps places (length xs) ok in
    let t = pieces-total xs 0 s.0 s.1.ascend in
    let l = s.1.last in
    rw s.1.whole (omega arith)

pub entries-append : (ts us : List ℕ) (ps qs : List ℚ) → length ts ≡ length ps → entries (ts ++ us) (ps ++ qs) ≡ entries ts ps ++ entries us qs
entries-append [] us [] qs e = refl
entries-append [] us (p ∷ ps) qs e = absurd (omega arith)
entries-append (t ∷ ts) us [] qs e = absurd (omega arith)
entries-append (t ∷ ts) us (p ∷ ps) qs e = ap (λ (r : List Entry). record { target = t; prob = p } ∷ r) (entries-append ts us ps qs (omega arith))

-- ---- a list that grows past its last place

ascend-wider : (a : ℕ) (places : List ℕ) (m n : ℕ) → m ≤ n → Ascend a places m → Ascend a places n
ascend-wider a [] m n h k = omega arith
ascend-wider a (b ∷ places) m n h k = (k.0, ascend-wider b places m n h k.1)

pub pieces-kept : {A : Type 0} → (xs ys : List A) (places : List ℕ) (m : ℕ) → ArePlaces places m → m ≤ length xs → pieces (xs ++ ys) places ≡ pieces xs places
pieces-kept xs ys places m ok h =
    let s = steps places m ok in
    rw s.1.whole (pieces-grown xs ys 0 s.0 (ascend-wider 0 s.0 m (length xs) h s.1.ascend))

pub sum_by-one : {A : Type 0} → (xs : List A) → sum_by length (xs ∷ []) ≡ length xs
sum_by-one xs = let e : sum_by length (xs ∷ []) ≡ length xs + 0 = sum_by-cons length xs [] in omega arith

piece-rest : {A : Type 0} → (xs : List A) (a n : ℕ) → n ≡ length xs → piece xs a n ≡ drop a xs
piece-rest xs a n e = let l : n - a ≡ length (drop a xs) = omega (arith, length-drop a xs) in rw l (take-length (drop a xs))

-- a new place at the end of the list ends a piece of all that is left
pub pieces-last : {A : Type 0} → (xs : List A) (places : List ℕ) (m n : ℕ) → ArePlaces places m → n ≡ length xs → pieces xs (places ++ n ∷ []) ≡ pieces xs places ++ drop m xs ∷ []
pieces-last xs places m n ok e =
    let s = steps places m ok in
    rw s.1.whole (pieces-snoc xs 0 s.0 n ∙ ap (λ (p : List _). pieces xs (0 ∷ s.0) ++ p ∷ []) (piece-rest xs (last_of 0 s.0) n e ∙ ap (λ (k : ℕ). drop k xs) s.1.last))

-- places that ascend strictly, with one more above the last
pub choice-more : (places : List ℕ) (m n : ℕ) → ArePlaces places m → ((i : ℕ) → i + 1 < length places → get_or places i 0 < get_or places (i + 1) 0) → m < n
    → (i : ℕ) → i + 1 < length (places ++ n ∷ []) → get_or (places ++ n ∷ []) i 0 < get_or (places ++ n ∷ []) (i + 1) 0
choice-more places m n ok strict h i l = elim (cases_lt (i + 1) (length places)) [
  | inl k ↦ (let a = old_place places n i (omega arith) in let b = old_place places n (i + 1) k in let o = strict i k in omega arith)
  | inr k ↦ (let e = length-append places (n ∷ []) in let a = old_place places n i (omega arith) in let b = new_place places n (i + 1) (omega arith) in let o = ok.within i (omega arith) in
      omega arith)
]

pub pieces-sum-to : {A : Type 0} → (xs : List A) (places : List ℕ) (m : ℕ) → ArePlaces places m → m ≤ length xs → sum_by length (pieces xs places) ≡ m
pieces-sum-to xs places m ok h =
    let s = steps places m ok in
    let t = pieces-total xs 0 s.0 (ascend-wider 0 s.0 m (length xs) h s.1.ascend) in
    let l = s.1.last in
    rw s.1.whole (omega arith)
