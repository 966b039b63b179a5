-- A step for each element of a list, made in place from the front.
use Rattle.std.proofs.Common.{◌≡◌, ℕ, zero, suc, ◌+◌, ◌<◌, ◌≤◌, List, [], ◌∷◌, length, get_or, refl, ◌∙◌, ap, subst, arith, Option, Some, None}
use Rattle.std.proofs.Math.ListN.{set}
use Rattle.mdp_math.specs.Written.{◌>>=◌}
use Rattle.mdp_elim.specs.Entries.{each}

module _ {A : Type 0} (f : A → Option A) where
  -- the first i elements have taken the step
  abbrev pub SoFar : ℕ → List A → List A → Type 0
  SoFar zero old now = old ≡ now
  SoFar (suc i) [] now = ⊥
  SoFar (suc i) (x ∷ old) [] = ⊥
  SoFar (suc i) (x ∷ old) (y ∷ now) = (f x ≡ Some y) × SoFar i old now

  pub so_far-len : (i : ℕ) (old now : List A) → SoFar i old now → length old ≡ length now
  so_far-len zero old now h = ap length h
  so_far-len (suc i) [] now h = absurd h
  so_far-len (suc i) (x ∷ old) [] h = absurd h
  so_far-len (suc i) (x ∷ old) (y ∷ now) h = let e : length old ≡ length now = so_far-len i old now h.1 in omega arith

  set_first : (old now : List A) (y d : A) → old ≡ now → 0 < length old → f (get_or now 0 d) ≡ Some y → SoFar 1 old (set now 0 y)
  set_first [] now y d e l h = absurd (omega arith)
  set_first (x ∷ old) [] y d e l h = cc
  set_first (x ∷ old) (z ∷ now) y d e l h = (let k : x ≡ z = cc in ap f k ∙ h, cc)

  pub so_far-more : (i : ℕ) (old now : List A) (y d : A) → SoFar i old now → i < length old → f (get_or now i d) ≡ Some y → SoFar (suc i) old (set now i y)
  so_far-more zero old now y d s l h = set_first old now y d s l h
  so_far-more (suc i) [] now y d s l h = absurd s
  so_far-more (suc i) (x ∷ old) [] y d s l h = absurd s
  so_far-more (suc i) (x ∷ old) (z ∷ now) y d s l h = (s.0, so_far-more i old now y d s.1 (omega arith) h)

  pub so_far-next : (i : ℕ) (old now : List A) (y d : A) → SoFar i old now → i < length now → f (get_or now i d) ≡ Some y → SoFar (i + 1) old (set now i y)
  so_far-next i old now y d s l h =
      let e : suc i ≡ i + 1 = omega arith in
      let n : length old ≡ length now = so_far-len i old now s in
      subst (λ k. SoFar k old (set now i y)) e (so_far-more i old now y d s (omega arith) h)

  pub so_far-all : (i : ℕ) (old now : List A) → SoFar i old now → length old ≤ i → each f old ≡ Some now
  so_far-all zero [] now s l = ap Some s
  so_far-all zero (x ∷ old) now s l = absurd (omega arith)
  so_far-all (suc i) [] now s l = absurd s
  so_far-all (suc i) (x ∷ old) [] s l = absurd s
  so_far-all (suc i) (x ∷ old) (y ∷ now) s l =
      ap (λ o. o >>= (λ y. each f old >>= (λ ys. Some (y ∷ ys)))) s.0 ∙ ap (λ o. o >>= (λ ys. Some (y ∷ ys))) (so_far-all i old now s.1 (omega arith))

  none_after : {B C : Type 0} (o : Option B) (g : B → Option C) → ((x : B) → g x ≡ None) → (o >>= g) ≡ None
  none_after None g h = refl
  none_after (Some x) g h = h x

  stop_first : (old now : List A) (d : A) → old ≡ now → 0 < length old → f (get_or now 0 d) ≡ None → each f old ≡ None
  stop_first [] now d e l h = absurd (omega arith)
  stop_first (x ∷ old) [] d e l h = cc
  stop_first (x ∷ old) (z ∷ now) d e l h = let k : x ≡ z = cc in ap (λ o. o >>= (λ y. each f old >>= (λ ys. Some (y ∷ ys)))) (ap f k ∙ h)

  pub so_far-stop : (i : ℕ) (old now : List A) (d : A) → SoFar i old now → i < length old → f (get_or now i d) ≡ None → each f old ≡ None
  so_far-stop zero old now d s l h = stop_first old now d s l h
  so_far-stop (suc i) [] now d s l h = absurd s
  so_far-stop (suc i) (x ∷ old) [] d s l h = absurd s
  so_far-stop (suc i) (x ∷ old) (z ∷ now) d s l h =
      none_after (f x) (λ y. each f old >>= (λ ys. Some (y ∷ ys))) (λ y. ap (λ o. o >>= (λ ys. Some (y ∷ ys))) (so_far-stop i old now d s.1 (omega arith) h))
