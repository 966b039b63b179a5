-- Numbers of parts in the order of their least states.
use Rattle.std.proofs.Common.{◌≡◌, ◌⊎◌, inl, inr, ℕ, suc, zero, ◌+◌, ◌<◌, ◌≤◌, true, false, ◌&&◌, ◌==◌, nat_lt}
use Rattle.std.proofs.Common.{List, [], ◌∷◌, length, get_or, refl, sym, ap, ◌∙◌, arith, Option, Some, None, is_some}
use Rattle.std.proofs.lemmas.Bool.{false≢true, eqb-true, ltb-true, cases_Bool, cases_eq, or_cases, and_parts}
use Rattle.mdp_ends.specs.Numbers.{is_numbered, count_from}

-- ---- numbers that may be missing

abbrev number : Option ℕ → ℕ
number None = 0
number (Some i) = i

pub some-same : (i j : ℕ) → Some i ≡ Some j → i ≡ j
some-same i j e = ap number e

pub some≢none : (i : ℕ) → Some i ≡ None → ⊥
some≢none i e = false≢true (sym (ap is_some e))

pub case-number : (o : Option ℕ) → (o ≡ None) ⊎ ((i : ℕ) × (o ≡ Some i))
case-number None = inl refl
case-number (Some i) = inr (i, refl)

-- ---- the first state of a list has a number that was given before, or the next one

pub head_cases : (next j : ℕ) (xs : List (Option ℕ)) → is_numbered next (Some j ∷ xs) ≡ true
    → ((nat_lt j next ≡ true) × (j < next) × (is_numbered next xs ≡ true)) ⊎ ((nat_lt j next ≡ false) × (j ≡ next) × (is_numbered (next + 1) xs ≡ true))
head_cases next j xs e = elim (or_cases (nat_lt j next && is_numbered next xs) ((j == next) && is_numbered (next + 1) xs) e) [
  | inl l ↦ (let p = and_parts (nat_lt j next) (is_numbered next xs) l in inl (p.0, ltb-true j next p.0, p.1))
  | inr r ↦
      (let p = and_parts (j == next) (is_numbered (next + 1) xs) r in
      let same = eqb-true j next p.0 in
      elim (cases_Bool (nat_lt j next)) [
        | inl less ↦ (let l = ltb-true j next less in absurd (omega (arith, l, same)))
        | inr not_less ↦ inr (not_less, same, p.1)
      ])
]

pub count-ge : (next : ℕ) (xs : List (Option ℕ)) → next ≤ count_from next xs
count-ge next [] = omega arith
count-ge next (None ∷ xs) = count-ge next xs
count-ge next (Some j ∷ xs) = elim (cases_Bool (nat_lt j next)) [
  | inl e ↦ rw e (count-ge next xs)
  | inr e ↦ rw e (let l = count-ge (next + 1) xs in omega (arith, l))
]

-- each number that is given is below the count
pub numbered-below : (next : ℕ) (xs : List (Option ℕ)) (s i : ℕ) → is_numbered next xs ≡ true → get_or xs s None ≡ Some i → i < count_from next xs
numbered-below next [] s i e is = absurd (some≢none i (sym is))
numbered-below next (None ∷ xs) zero i e is = absurd (some≢none i (sym is))
numbered-below next (None ∷ xs) (suc s) i e is = numbered-below next xs s i e is
numbered-below next (Some j ∷ xs) zero i e is =
    let same = some-same j i is in
    elim (head_cases next j xs e) [
      | inl old ↦ rw old.0 (let l = count-ge next xs in omega (arith, l, old.1, same))
      | inr new ↦ rw new.0 (let l = count-ge (next + 1) xs in omega (arith, l, new.1, same))
    ]
numbered-below next (Some j ∷ xs) (suc s) i e is = elim (head_cases next j xs e) [
  | inl old ↦ rw old.0 (numbered-below next xs s i old.2 is)
  | inr new ↦ rw new.0 (numbered-below (next + 1) xs s i new.2 is)
]

-- and each number from `next` to the count is given
pub numbered-has : (next : ℕ) (xs : List (Option ℕ)) (i : ℕ) → is_numbered next xs ≡ true → next ≤ i → i < count_from next xs → (s : ℕ) × (s < length xs) × (get_or xs s None ≡ Some i)
numbered-has next [] i e low high = absurd (omega (arith, low, high))
numbered-has next (None ∷ xs) i e low high = let w = numbered-has next xs i e low high in (suc w.0, omega (arith, w.1), w.2)
numbered-has next (Some j ∷ xs) i e low high = elim (head_cases next j xs e) [
  | inl old ↦ (let w = numbered-has next xs i old.2 low (rw old.0 at high) in (suc w.0, omega (arith, w.1), w.2))
  | inr new ↦ (elim (cases_eq next i) [
    | inl here ↦ (0, omega arith, ap Some (new.1 ∙ here))
    | inr later ↦ (let w = numbered-has (next + 1) xs i new.2 (omega (arith, low, later)) (rw new.0 at high) in (suc w.0, omega (arith, w.1), w.2))
  ])
]
