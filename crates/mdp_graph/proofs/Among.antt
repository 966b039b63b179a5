-- Which states a list holds.
use Rattle.std.proofs.Common.{◌≡◌, ◌≢◌, ◌⊎◌, inl, inr, ℕ, suc, zero, Bool, ◌&&◌, ◌+◌, ◌<◌, true, false, ◌||◌, ◌==◌, List, [], ◌∷◌, ◌++◌, length, take, get_or, refl, sym, ap}
use Rattle.std.proofs.{Common.{◌∙◌, arith, Option, Some, None, eq-eqb}, lemmas.Bool.{eqb-true, false≢true, cases_Bool, cases_eq, ne_eqb}}
use Rattle.std.proofs.{lemmas.List.{take_more}, lemmas.List.Folds.{list_any-append}}
use Rattle.std.specs.List.{All}
use Rattle.mdp_rows.specs.Preds.{is_among}
use Rattle.mdp_math.proofs.Booleans.{and-both, and-false, or-false, or-true}

pub cases_rank : (o : Option ℕ) → (o ≡ None) ⊎ ((r : ℕ) × (o ≡ Some r))
cases_rank None = inl refl
cases_rank (Some r) = inr (r, refl)

pub or-and_false : (a b : Bool) → a ≡ (a || (b && false))
or-and_false a b = sym (ap (λ c. a || c) (and-false b) ∙ or-false a)

pub among-append : (t : ℕ) (xs ys : List ℕ) → is_among t (xs ++ ys) ≡ (is_among t xs || is_among t ys)
among-append t xs ys = list_any-append (λ x. x == t) xs ys

pub among-more : (t : ℕ) (xs : List ℕ) (i : ℕ) → i < length xs → is_among t (take (i + 1) xs) ≡ (is_among t (take i xs) || ((get_or xs i 0 == t) || false))
among-more t xs i h = ap (is_among t) (take_more xs i 0 h) ∙ among-append t (take i xs) (get_or xs i 0 ∷ [])

-- what holds of each element holds of those that are among them
pub among-below : (t n : ℕ) (xs : List ℕ) → All (λ x. x < n) xs → is_among t xs ≡ true → t < n
among-below t n [] all e = absurd (false≢true e)
among-below t n (x ∷ xs) all e = elim (cases_Bool (x == t)) [
  | inl same ↦ (let s = eqb-true x t same in let h = all 0 0 (omega arith) in omega (arith, s, h))
  | inr other ↦ among-below t n xs (λ k d l. all (suc k) d (omega arith)) (let u : ((x == t) || is_among t xs) ≡ is_among t xs = rw other refl in sym u ∙ e)
]

pub below-all : (n : ℕ) (xs : List ℕ) → ((t : ℕ) → is_among t xs ≡ true → t < n) → All (λ x. x < n) xs
below-all n [] h = λ k d l. absurd (omega arith)
below-all n (x ∷ xs) h = λ k d l. elim k as (λ k. k < suc (length xs) → get_or (x ∷ xs) k d < n) [
  | zero ↦ λ l. h x (rw (eq-eqb x x refl) refl)
  | suc k ↦ λ l. below-all n xs (λ t e. h t (rw e (or-true (x == t)))) k d (omega arith)
] l

-- ---- those of a list that pass a test

module _ (test : ℕ → Bool) (xs : List ℕ) (i : ℕ) (list : List ℕ) (h : i < length xs) where
  abbrev x : ℕ
  x = get_or xs i 0

  among-here : (t : ℕ) → x ≡ t → is_among t (take (i + 1) xs) ≡ true
  among-here t same = among-more t xs i h ∙ ap (λ b. is_among t (take i xs) || (b || false)) (eq-eqb x t same) ∙ or-true (is_among t (take i xs))

  among-there : (t : ℕ) → x ≢ t → is_among t (take (i + 1) xs) ≡ is_among t (take i xs)
  among-there t other = among-more t xs i h ∙ ap (λ b. is_among t (take i xs) || (b || false)) (ne_eqb x t other) ∙ or-false (is_among t (take i xs))

  pub passing_more : (more : List ℕ) → test x ≡ true → more ≡ list ++ x ∷ [] → (t : ℕ) → is_among t list ≡ (is_among t (take i xs) && test t)
      → is_among t more ≡ (is_among t (take (i + 1) xs) && test t)
  passing_more more passes e t was = ap (is_among t) e ∙ among-append t list (x ∷ []) ∙ (elim (cases_eq x t) [
    | inl same ↦ ap (λ b. is_among t list || (b || false)) (eq-eqb x t same) ∙ or-true (is_among t list)
        ∙ sym (and-both (is_among t (take (i + 1) xs)) (test t) (among-here t same) (ap test (sym same) ∙ passes))
    | inr other ↦ ap (λ b. is_among t list || (b || false)) (ne_eqb x t other) ∙ or-false (is_among t list) ∙ was ∙ ap (λ b. b && test t) (sym (among-there t other))
  ])

  pub passing_skip : test x ≡ false → (t : ℕ) → is_among t list ≡ (is_among t (take i xs) && test t) → is_among t list ≡ (is_among t (take (i + 1) xs) && test t)
  passing_skip fails t was = was ∙ (elim (cases_eq x t) [
    | inl same ↦ (let f : test t ≡ false = ap test (sym same) ∙ fails in
        ap (λ b. is_among t (take i xs) && b) f ∙ and-false (is_among t (take i xs)) ∙ sym (ap (λ b. is_among t (take (i + 1) xs) && b) f ∙ and-false (is_among t (take (i + 1) xs))))
    | inr other ↦ ap (λ b. b && test t) (sym (among-there t other))
  ])
