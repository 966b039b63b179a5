-- What a loop keeps that appends a text piece by piece.
use Rattle.std.proofs.Common.{◌≡◌, ℕ, ◌≤◌, min, List, [], ◌++◌, length, take, Result, Ok, Err, OnOk, refl, sym, ap, ◌∙◌, append_assoc, append-nil, arith}
use Rattle.std.proofs.{Math.Seq.{take-length}, lemmas.List.{take-take, length-take}}

-- what is written and what is left are the whole text, behind what was there
pub record Appending (old now rest whole : List ℕ) : Type 0 where
  pub left : now ++ rest ≡ old ++ whole
  pub front : take (length old) now ≡ old

pub appending-start : (old whole : List ℕ) → Appending old old whole whole
appending-start old whole = record { left = refl; front = take-length old }

pub front-more : (old now later : List ℕ) → take (length old) now ≡ old → take (length now) later ≡ now → take (length old) later ≡ old
front-more old now later h k =
    let n : min (length old) (length now) ≡ length old = sym (length-take (length old) now) ∙ ap (λ xs. length xs) h in
    let le : length old ≤ length now = omega (arith, n) in
    sym (take-take (length old) (length now) later le) ∙ ap (λ xs. take (length old) xs) k ∙ h

pub appending-more : (old now later piece rest more whole : List ℕ) → Appending old now rest whole
    → rest ≡ piece ++ more → later ≡ now ++ piece → take (length now) later ≡ now → Appending old later more whole
appending-more old now later piece rest more whole a r l f = record {
  left = ap (λ xs. xs ++ more) l ∙ append_assoc now piece more ∙ ap (λ xs. now ++ xs) (sym r) ∙ a.left;
  front = front-more old now later a.front f;
}

pub appending-done : (old now rest whole : List ℕ) → Appending old now rest whole → rest ≡ [] → now ≡ old ++ whole
appending-done old now rest whole a r = sym (append-nil now) ∙ ap (λ xs. now ++ xs) (sym r) ∙ a.left

-- ---- one piece behind another

pub piece-then : (old now later piece more : List ℕ) → now ≡ old ++ piece → later ≡ now ++ more → later ≡ old ++ (piece ++ more)
piece-then old now later piece more h k = k ∙ ap (λ xs. xs ++ more) h ∙ append_assoc old piece more

-- the last piece, which may fail
pub piece-last : {E : Type 0} (r : Result (Unit {0}) E) (old now later piece more text : List ℕ) → now ≡ old ++ piece → OnOk r (later ≡ now ++ more) → piece ++ more ≡ text
    → OnOk r (later ≡ old ++ text)
piece-last (Ok done) old now later piece more text h k e = piece-then old now later piece more h k ∙ ap (λ xs. old ++ xs) e
piece-last (Err e) old now later piece more text h k is = tt

pub three-pieces : {E : Type 0} (r : Result (Unit {0}) E) (old now next later x y z text : List ℕ) → now ≡ old ++ x → next ≡ now ++ y → OnOk r (later ≡ next ++ z) → (x ++ y) ++ z ≡ text
    → OnOk r (later ≡ old ++ text)
three-pieces r old now next later x y z text h k l e = piece-last r old next later (x ++ y) z text (piece-then old now next x y h k) l e
