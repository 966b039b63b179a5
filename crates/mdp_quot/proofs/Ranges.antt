-- An ascending list is the part of a range that has its numbers.
use Rattle.std.proofs.Common.{◌≡◌, inl, inr, ℕ, zero, suc, ◌+◌, ◌<◌, ◌≤◌, Bool, true, false, ◌==◌, cond, List, [], ◌∷◌, length, get_or, filter, refl, sym, ap, ◌∙◌, subst, arith}
use Rattle.std.proofs.{lemmas.List.Sums.{sum_by-cons}, lemmas.Bool.{cases_Bool, cases_eq, false≢true, eq-eqb, ne_eqb}}
use Rattle.std.specs.{List.{range_with_len}, List.Sorted.{IsNonDecreasing}}
use Rattle.mdp_quot.specs.Sums.{times}

pub times-cons : (q x : ℕ) (xs : List ℕ) → times q (x ∷ xs) ≡ cond (x == q) 1 0 + times q xs
times-cons q x xs = sum_by-cons (λ y. cond (y == q) 1 0) x xs

pub times-same : (q : ℕ) (xs : List ℕ) → times q (q ∷ xs) ≡ suc (times q xs)
times-same q xs = times-cons q q xs ∙ ap (λ (b : Bool). cond b 1 0 + times q xs) (eq-eqb q q refl) ∙ omega arith

pub times-other : (q x : ℕ) (xs : List ℕ) → (x ≡ q → ⊥) → times q (x ∷ xs) ≡ times q xs
times-other q x xs h = times-cons q x xs ∙ ap (λ (b : Bool). cond b 1 0 + times q xs) (ne_eqb x q h) ∙ omega arith

-- what stands in a list stands at a place of it
pub place_of_times : (q : ℕ) (xs : List ℕ) → 0 < times q xs → (k : ℕ) × (k < length xs) × (get_or xs k 0 ≡ q)
place_of_times q [] h = absurd (omega (arith, h))
place_of_times q (x ∷ xs) h = elim (cases_eq x q) [
  | inl same ↦ (0, omega arith, same)
  | inr other ↦ (let e = times-other q x xs other in let w = place_of_times q xs (omega (arith, h, e)) in (suc w.0, omega (arith, w.1), w.2))
]

-- the numbers of a range that pass a test, once each
pub record AreThose (p : ℕ → Bool) (a n : ℕ) (xs : List ℕ) : Type 0 where
  pub once : (q : ℕ) → a ≤ q → q < a + n → p q ≡ true → times q xs ≡ 1
  pub within : (q : ℕ) → 0 < times q xs → (a ≤ q) × (q < a + n) × (p q ≡ true)

tail : (x : ℕ) (xs : List ℕ) → IsNonDecreasing (x ∷ xs) → IsNonDecreasing xs
tail x xs up i j d h l = up (suc i) (suc j) d (omega (arith, h)) (omega (arith, l))

none : (p : ℕ → Bool) (a : ℕ) (xs : List ℕ) → AreThose p a 0 xs → [] ≡ xs
none p a [] h = refl
none p a (x ∷ xs) h = let e = times-same x xs in let w = h.within x (omega (arith, e)) in absurd (omega (arith, w.0, w.1))

-- the first one of a list that has a and no smaller number
first_is : (p : ℕ → Bool) (a n x : ℕ) (xs : List ℕ) → IsNonDecreasing (x ∷ xs) → AreThose p a n (x ∷ xs) → 0 < times a (x ∷ xs) → x ≡ a
first_is p a n x xs up h l = elim (cases_eq x a) [
  | inl same ↦ same
  | inr other ↦
      (let e = times-other a x xs other in
      let w = place_of_times a xs (omega (arith, l, e)) in
      let le = up 0 (suc w.0) 0 (omega arith) (omega (arith, w.1)) in
      let ge = h.within x (let k = times-same x xs in omega (arith, k)) in
      omega (arith, le, w.2, ge.0))
]

later : (p : ℕ → Bool) (a n : ℕ) (xs : List ℕ) → p a ≡ false → AreThose p a (suc n) xs → AreThose p (a + 1) n xs
later p a n xs out h = record {
  once = λ q l u e. h.once q (omega (arith, l)) (omega (arith, u)) e;
  within = λ q l. (let w = h.within q l in elim (cases_eq q a) as (λ _. (a + 1 ≤ q) × (q < a + 1 + n) × (p q ≡ true))
      [ inl same ↦ absurd (false≢true (sym out ∙ ap p (sym same) ∙ w.2)) | inr other ↦ (omega (arith, w.0, other), omega (arith, w.1), w.2) ]);
}

rest : (p : ℕ → Bool) (a n : ℕ) (xs : List ℕ) → p a ≡ true → AreThose p a (suc n) (a ∷ xs) → AreThose p (a + 1) n xs
rest p a n xs is h = record {
  once = λ q l u e. sym (times-other q a xs (λ z. omega (arith, z, l))) ∙ h.once q (omega (arith, l)) (omega (arith, u)) e;
  within = λ q l. elim (cases_eq a q) as (λ _. (a + 1 ≤ q) × (q < a + 1 + n) × (p q ≡ true)) [
    | inl same ↦ (let k = times-same a xs in let o = h.once a (omega arith) (omega arith) is in let z = ap (λ (i : ℕ). times i xs) same in absurd (omega (arith, k, o, l, z)))
    | inr other ↦ (let e = times-other q a xs other in let w = h.within q (omega (arith, e, l)) in (omega (arith, w.0, other), omega (arith, w.1), w.2))
  ];
}

begins : (p : ℕ → Bool) (a n : ℕ) (xs : List ℕ) → p a ≡ true → IsNonDecreasing xs → AreThose p a (suc n) xs → 0 < times a xs
    → ((ys : List ℕ) → IsNonDecreasing ys → AreThose p (a + 1) n ys → filter p (range_with_len (a + 1) n) ≡ ys) → a ∷ filter p (range_with_len (a + 1) n) ≡ xs
begins p a n [] is up h l behind = absurd (omega (arith, l))
begins p a n (x ∷ xs) is up h l behind =
    let e = first_is p a (suc n) x xs up h l in
    subst (λ k. a ∷ filter p (range_with_len (a + 1) n) ≡ k ∷ xs) (sym e)
    (ap (λ (ys : List ℕ). a ∷ ys) (behind xs (tail x xs up) (rest p a n xs is (subst (λ k. AreThose p a (suc n) (k ∷ xs)) e h))))

pub range_is : (p : ℕ → Bool) (n a : ℕ) (xs : List ℕ) → IsNonDecreasing xs → AreThose p a n xs → filter p (range_with_len a n) ≡ xs
range_is p zero a xs up h = none p a xs h
range_is p (suc n) a xs up h = elim (cases_Bool (p a)) as (λ _. filter p (range_with_len a (suc n)) ≡ xs) [
  | inr out ↦ rw out (range_is p n (a + 1) xs up (later p a n xs out h))
  | inl is ↦ rw is (begins p a n xs is up h (let o = h.once a (omega arith) (omega arith) is in omega (arith, o)) (λ ys upward those. range_is p n (a + 1) ys upward those))
]
