-- Lists with one entry for each state of a part, read by the state.
use Rattle.std.proofs.Common.{◌≡◌, ℕ, ◌<◌, Bool, true, false, ◌&&◌, ◌||◌, ◌==◌, if◌then◌else◌, List, [], ◌∷◌, map, filter, refl, sym, ◌∙◌, ap, subst}
use Rattle.std.proofs.lemmas.Bool.{false≢true, eqb-true, eq-eqb, and_from}
use Rattle.std.specs.List.{list_any, range_with_len}
use Rattle.mdp_math.proofs.Booleans.{and-parts, or-left_false, or-right_false}
use Rattle.mdp_ends.proofs.Walking.{any-range, range-any}
use Rattle.mdp_gain.specs.Best.{entry_of}

module _ {A : Type 0} (d : A) (f : ℕ → A) where
  has_by : (t s : ℕ) (rest : A) (b : Bool) → (t == s) ≡ b → (b ≡ false → rest ≡ f s) → (if b then f t else rest) ≡ f s
  has_by t s rest true e h = ap f (eqb-true t s e)
  has_by t s rest false e h = h refl

  -- the entry of a state of the list
  pub entry-has : (xs : List ℕ) (s : ℕ) → list_any (λ t. t == s) xs ≡ true → entry_of d xs (map f xs) s ≡ f s
  entry-has [] s h = absurd (false≢true h)
  entry-has (t ∷ xs) s h =
      has_by t s (entry_of d xs (map f xs) s) (t == s) refl
      (λ e. entry-has xs s (later (t == s) e (list_any (λ u. u == s) xs) h))
    where
      later : (a : Bool) → a ≡ false → (b : Bool) → (a || b) ≡ true → b ≡ true
      later true e b h = absurd (false≢true (sym e))
      later false e b h = h

  not_by : (t s : ℕ) (rest : A) (b : Bool) → b ≡ false → rest ≡ d → (if b then f t else rest) ≡ d
  not_by t s rest true e h = absurd (false≢true (sym e))
  not_by t s rest false e h = h

  -- and of any other
  pub entry-none : (xs : List ℕ) (s : ℕ) → list_any (λ t. t == s) xs ≡ false → entry_of d xs (map f xs) s ≡ d
  entry-none [] s h = refl
  entry-none (t ∷ xs) s h =
      not_by t s (entry_of d xs (map f xs) s) (t == s) (or-left_false (t == s) (list_any (λ u. u == s) xs) h)
      (entry-none xs s (or-right_false (t == s) (list_any (λ u. u == s) xs) h))

-- which states a filtered range has
filter_by : (test p : ℕ → Bool) (x : ℕ) (xs : List ℕ) (rest : Bool) (b : Bool) → list_any p (filter test xs) ≡ rest
    → list_any p (if b then x ∷ filter test xs else filter test xs) ≡ ((b && p x) || rest)
filter_by test p x xs rest true h = ap (λ b. p x || b) h
filter_by test p x xs rest false h = h

any-filter : (test p : ℕ → Bool) (xs : List ℕ) → list_any p (filter test xs) ≡ list_any (λ x. test x && p x) xs
any-filter test p [] = refl
any-filter test p (x ∷ xs) = filter_by test p x xs (list_any (λ x. test x && p x) xs) (test x) (any-filter test p xs)

pub filtered-has : (test : ℕ → Bool) (n s : ℕ) → s < n → test s ≡ true → list_any (λ t. t == s) (filter test (range_with_len 0 n)) ≡ true
filtered-has test n s l e = any-filter test (λ t. t == s) (range_with_len 0 n) ∙ range-any (λ t. test t && (t == s)) n s l (and_from (test s) (s == s) e (eq-eqb s s refl))

pub filtered-not : (test : ℕ → Bool) (n s : ℕ) → test s ≡ false → list_any (λ t. t == s) (filter test (range_with_len 0 n)) ≡ false
filtered-not test n s e = any-filter test (λ t. t == s) (range_with_len 0 n) ∙ none (list_any (λ t. test t && (t == s)) (range_with_len 0 n)) refl
  where
    none : (b : Bool) → list_any (λ t. test t && (t == s)) (range_with_len 0 n) ≡ b → b ≡ false
    none false h = refl
    none true h =
        let w = any-range (λ t. test t && (t == s)) n h in
        let b = and-parts (test w.0) (w.0 == s) w.2 in
        absurd (false≢true (sym e ∙ subst (λ t. test t ≡ true) (eqb-true w.0 s b.1) b.0))
