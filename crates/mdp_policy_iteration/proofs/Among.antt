-- Which nodes a list holds, and tests of which one holds of an element.
use Rattle.std.proofs.Common.{◌≡◌, inl, inr, ℕ, zero, suc, ◌+◌, ◌<◌, ◌≤◌, Bool, true, false, ◌==◌, cond, List, [], ◌∷◌, length, get_or, refl, sym, ap, ◌∙◌}
use Rattle.std.proofs.{Common.{subst, arith, eq-eqb, count_by}, lemmas.Bool.{eqb-true, false≢true, cases_Bool, or_cases, or_left, or_right}, lemmas.List.Folds.{list_any_at}}
use Rattle.std.proofs.lemmas.List.Sums.{sum_by-cons}
use Rattle.std.specs.List.{All, list_any}
use Rattle.mdp_math.proofs.Booleans.{or-left_false, or-right_false, and-both, and-parts}
use Rattle.mdp_rows.specs.{Preds.{is_among}, declared.preds.Pred.{Pred}}
use Rattle.mdp_policy_iteration.specs.{Dependents.{is_choice}, Marked.{has_one}}

-- ---- lists

pub among_at : (xs : List ℕ) (k d : ℕ) → k < length xs → is_among (get_or xs k d) xs ≡ true
among_at xs k d h = list_any_at (λ x. x == get_or xs k d) xs k d h (eq-eqb (get_or xs k d) (get_or xs k d) refl)

-- what passes a test is one that passes it
pub some_among : (p : ℕ → Bool) (xs : List ℕ) → list_any p xs ≡ true → (t : ℕ) × (is_among t xs ≡ true) × (p t ≡ true)
some_among p [] e = absurd (false≢true e)
some_among p (x ∷ xs) e = elim (or_cases (p x) (list_any p xs) e) [
  | inl here ↦ (x, or_left (x == x) (is_among x xs) (eq-eqb x x refl), here)
  | inr later ↦ (let w = some_among p xs later in (w.0, or_right (x == w.0) (is_among w.0 xs) w.1, w.2))
]

pub any_among : (p : ℕ → Bool) (t : ℕ) (xs : List ℕ) → is_among t xs ≡ true → p t ≡ true → list_any p xs ≡ true
any_among p t [] e h = absurd (false≢true e)
any_among p t (x ∷ xs) e h = elim (or_cases (x == t) (is_among t xs) e) [
  | inl here ↦ or_left (p x) (list_any p xs) (ap p (eqb-true x t here) ∙ h)
  | inr later ↦ or_right (p x) (list_any p xs) (any_among p t xs later h)
]

pub all-among : (P : ℕ → Type 0) (t : ℕ) (xs : List ℕ) → All P xs → is_among t xs ≡ true → P t
all-among P t [] all e = absurd (false≢true e)
all-among P t (x ∷ xs) all e = elim (or_cases (x == t) (is_among t xs) e) [
  | inl here ↦ subst P (eqb-true x t here) (all 0 0 (omega arith))
  | inr later ↦ all-among P t xs (λ k d l. all (suc k) d (omega arith)) later
]

-- ---- choices

-- a node with one of these choices has a certain one
pub some_choice : (s : ℕ) (choices : List Pred) → has_one choices s ≡ true → (c : ℕ) × (list_any (is_choice s c) choices ≡ true)
some_choice s [] e = absurd (false≢true e)
some_choice s (p ∷ choices) e = elim (or_cases (p.state == s) (has_one choices s) e) [
  | inl here ↦ (p.choice, or_left (is_choice s p.choice p) (list_any (is_choice s p.choice) choices) (and-both (p.state == s) (p.choice == p.choice) here (eq-eqb p.choice p.choice refl)))
  | inr later ↦ (let w = some_choice s choices later in (w.0, or_right (is_choice s w.0 p) (list_any (is_choice s w.0) choices) w.1))
]

pub has_choice : (s c : ℕ) (choices : List Pred) → list_any (is_choice s c) choices ≡ true → has_one choices s ≡ true
has_choice s c [] e = absurd (false≢true e)
has_choice s c (p ∷ choices) e = elim (or_cases (is_choice s c p) (list_any (is_choice s c) choices) e) [
  | inl here ↦ or_left (p.state == s) (has_one choices s) (and-parts (p.state == s) (p.choice == c) here).0
  | inr later ↦ or_right (p.state == s) (has_one choices s) (has_choice s c choices later)
]

-- ---- counts

count-cons : (s x : ℕ) (xs : List ℕ) → count_by (λ y. y == s) (x ∷ xs) ≡ cond (x == s) 1 0 + count_by (λ y. y == s) xs
count-cons s x xs = sum_by-cons (λ y. cond (y == s) 1 0) x xs

count-cons_here : (s x : ℕ) (xs : List ℕ) → (x == s) ≡ true → count_by (λ y. y == s) (x ∷ xs) ≡ 1 + count_by (λ y. y == s) xs
count-cons_here s x xs e = count-cons s x xs ∙ ap (λ b. cond b 1 0 + count_by (λ y. y == s) xs) e

-- one more is no less
count-cons_le : (s x : ℕ) (xs : List ℕ) → count_by (λ y. y == s) xs ≤ count_by (λ y. y == s) (x ∷ xs)
count-cons_le s x xs = let e = count-cons s x xs in omega (arith, e)

pub none_counted : (s : ℕ) (xs : List ℕ) → is_among s xs ≡ false → count_by (λ x. x == s) xs ≡ 0
none_counted s [] e = refl
none_counted s (x ∷ xs) e =
    let k : count_by (λ y. y == s) (x ∷ xs) ≡ 0 + count_by (λ y. y == s) xs = count-cons s x xs ∙ ap (λ b. cond b 1 0 + count_by (λ y. y == s) xs) (or-left_false (x == s) (is_among s xs) e) in
    let later : count_by (λ x. x == s) xs ≡ 0 = none_counted s xs (or-right_false (x == s) (is_among s xs) e) in
    omega (arith, k, later)

pub one_counted : (s : ℕ) (xs : List ℕ) → is_among s xs ≡ true → 0 < count_by (λ x. x == s) xs
one_counted s [] e = absurd (false≢true e)
one_counted s (x ∷ xs) e = elim (or_cases (x == s) (is_among s xs) e) [
  | inl here ↦ (let k = count-cons_here s x xs here in omega (arith, k))
  | inr later ↦ (let k = one_counted s xs later in let l = count-cons_le s x xs in omega (arith, k, l))
]

-- lists with as many of a node hold it or not alike
pub same_among : (s : ℕ) (xs ys : List ℕ) → count_by (λ x. x == s) ys ≡ count_by (λ x. x == s) xs → is_among s ys ≡ is_among s xs
same_among s xs ys e = elim (cases_Bool (is_among s ys)) [
  | inl in_ys ↦ in_ys ∙ (elim (cases_Bool (is_among s xs)) [
    | inl in_xs ↦ sym in_xs
    | inr out ↦ absurd (let a = one_counted s ys in_ys in let b = none_counted s xs out in omega (arith, a, b, e))
  ])
  | inr none ↦ none ∙ (elim (cases_Bool (is_among s xs)) [
    | inl in_xs ↦ absurd (let a = one_counted s xs in_xs in let b = none_counted s ys none in omega (arith, a, b, e))
    | inr out ↦ sym out
  ])
]

counted_at : (xs : List ℕ) (k v : ℕ) → k < length xs → get_or xs k 0 ≡ v → 0 < count_by (λ x. x == v) xs
counted_at xs k v h e = one_counted v xs (subst (λ w. is_among w xs ≡ true) e (among_at xs k 0 h))

-- a node at two places
pub two_counted : (xs : List ℕ) (i j v : ℕ) → i < j → j < length xs → get_or xs i 0 ≡ v → get_or xs j 0 ≡ v → 1 < count_by (λ x. x == v) xs
two_counted [] i j v l h e f = absurd (omega arith)
two_counted (x ∷ xs) zero zero v l h e f = absurd (omega arith)
two_counted (x ∷ xs) zero (suc j) v l h e f =
    let here = count-cons_here v x xs (eq-eqb x v e) in
    let later = counted_at xs j v (omega arith) f in
    omega (arith, here, later)
two_counted (x ∷ xs) (suc i) zero v l h e f = absurd (omega arith)
two_counted (x ∷ xs) (suc i) (suc j) v l h e f = let later = two_counted xs i j v (omega arith) (omega arith) e f in let k = count-cons_le v x xs in omega (arith, later, k)
