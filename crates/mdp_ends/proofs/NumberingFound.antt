-- States can be numbered by a test of whether two are in one part.
use Rattle.std.proofs.Common.{◌≡◌, ◌⊎◌, inl, inr, ℕ, suc, zero, ◌+◌, ◌<◌, ◌≤◌, ◌↔◌, Bool, true, false, ◌&&◌, ◌==◌}
use Rattle.std.proofs.Common.{nat_lt, List, [], ◌∷◌, ◌++◌, length, get_or, refl, sym, ap, ◌∙◌, arith, Option, Some, None}
use Rattle.std.proofs.lemmas.Bool.{false≢true, cases_Bool, cases_eq, or_left, or_right, and_parts, and_from, eq-eqb, lt-ltb}
use Rattle.mdp_ends.specs.Numbers.{is_numbered, count_from}
use Rattle.mdp_ends.proofs.Numbering.{head_cases, some-same, some≢none, case-number, numbered-below}

-- ---- a number below n that passes a test, or none

pub find_below : (p : ℕ → Bool) (n : ℕ) → ((s : ℕ) × (s < n) × (p s ≡ true)) ⊎ ((s : ℕ) → s < n → p s ≡ false)
find_below p zero = inr (λ s h. absurd (omega (arith, h)))
find_below p (suc n) = elim (cases_Bool (p n)) as (λ _. ((s : ℕ) × (s < suc n) × (p s ≡ true)) ⊎ ((s : ℕ) → s < suc n → p s ≡ false)) [
  | inl it ↦ inl (n, omega arith, it)
  | inr not_it ↦ (elim (find_below p n) as (λ _. ((s : ℕ) × (s < suc n) × (p s ≡ true)) ⊎ ((s : ℕ) → s < suc n → p s ≡ false)) [
    | inl w ↦ inl (w.0, omega (arith, w.1), w.2)
    | inr none ↦ inr (λ s h. elim (cases_eq s n) [ inl same ↦ ap p same ∙ not_it | inr other ↦ none s (omega (arith, h, other)) ])
  ])
]

-- ---- one more state

pub numbered-none : (next : ℕ) (xs : List (Option ℕ)) → is_numbered next xs ≡ true → is_numbered next (xs ++ None ∷ []) ≡ true
numbered-none next [] e = refl
numbered-none next (None ∷ xs) e = numbered-none next xs e
numbered-none next (Some j ∷ xs) e = elim (head_cases next j xs e) [
  | inl old ↦ or_left (nat_lt j next && is_numbered next (xs ++ None ∷ [])) ((j == next) && is_numbered (next + 1) (xs ++ None ∷ []))
      (and_from (nat_lt j next) (is_numbered next (xs ++ None ∷ [])) old.0 (numbered-none next xs old.2))
  | inr new ↦
      or_right (nat_lt j next && is_numbered next (xs ++ None ∷ [])) ((j == next) && is_numbered (next + 1) (xs ++ None ∷ []))
      (and_from (j == next) (is_numbered (next + 1) (xs ++ None ∷ [])) (eq-eqb j next new.1) (numbered-none (next + 1) xs new.2))
]

pub numbered-some : (next : ℕ) (xs : List (Option ℕ)) (i : ℕ) → is_numbered next xs ≡ true → i ≤ count_from next xs → is_numbered next (xs ++ Some i ∷ []) ≡ true
numbered-some next [] i e h = elim (cases_eq i next) [
  | inl same ↦ or_right (nat_lt i next && true) ((i == next) && true) (and_from (i == next) true (eq-eqb i next same) refl)
  | inr other ↦ or_left (nat_lt i next && true) ((i == next) && true) (and_from (nat_lt i next) true (lt-ltb i next (omega (arith, h, other))) refl)
]
numbered-some next (None ∷ xs) i e h = numbered-some next xs i e h
numbered-some next (Some j ∷ xs) i e h = elim (head_cases next j xs e) [
  | inl old ↦
      or_left (nat_lt j next && is_numbered next (xs ++ Some i ∷ [])) ((j == next) && is_numbered (next + 1) (xs ++ Some i ∷ []))
      (and_from (nat_lt j next) (is_numbered next (xs ++ Some i ∷ [])) old.0 (numbered-some next xs i old.2 (rw old.0 at h)))
  | inr new ↦
      or_right (nat_lt j next && is_numbered next (xs ++ Some i ∷ [])) ((j == next) && is_numbered (next + 1) (xs ++ Some i ∷ []))
      (and_from (j == next) (is_numbered (next + 1) (xs ++ Some i ∷ [])) (eq-eqb j next new.1) (numbered-some (next + 1) xs i new.2 (rw new.0 at h)))
]

pub length-more : {X : Type 0} (xs : List X) (x : X) → length (xs ++ x ∷ []) ≡ suc (length xs)
length-more [] x = refl
length-more (y ∷ xs) x = ap suc (length-more xs x)

pub at_before : {X : Type 0} (xs : List X) (x d : X) (s : ℕ) → s < length xs → get_or (xs ++ x ∷ []) s d ≡ get_or xs s d
at_before [] x d s h = absurd (omega (arith, h))
at_before (y ∷ xs) x d zero h = refl
at_before (y ∷ xs) x d (suc s) h = at_before xs x d s (omega (arith, h))

pub at_last : {X : Type 0} (xs : List X) (x d : X) → get_or (xs ++ x ∷ []) (length xs) d ≡ x
at_last [] x d = refl
at_last (y ∷ xs) x d = at_last xs x d

-- ---- the numbers of the states that have one

module _ (has : ℕ → Bool) (same : ℕ → ℕ → Bool) (refl_at : (s : ℕ) → same s s ≡ true) (sym_at : (s t : ℕ) → same s t ≡ true → same t s ≡ true)
    (limit : ℕ) (trans_at : (s t u : ℕ) → s < limit → t < limit → u < limit → same s t ≡ true → same t u ≡ true → same s u ≡ true) where
  pub record AreNumbers (n : ℕ) (xs : List (Option ℕ)) : Type 0 where
    pub count : length xs ≡ n
    pub numbered : is_numbered 0 xs ≡ true
    pub none : (s : ℕ) → s < n → get_or xs s None ≡ None → has s ≡ false
    pub some : (s i : ℕ) → s < n → get_or xs s None ≡ Some i → has s ≡ true
    pub joins : (s t i : ℕ) → s < n → t < n → get_or xs s None ≡ Some i → get_or xs t None ≡ Some i → same s t ≡ true
    pub splits : (s t i j : ℕ) → s < n → t < n → get_or xs s None ≡ Some i → get_or xs t None ≡ Some j → same s t ≡ true → i ≡ j

  -- one more, by what stands at the last place
  module _ (n : ℕ) (xs : List (Option ℕ)) (a : AreNumbers n xs) where
    old_at : (x : Option ℕ) (s : ℕ) → s < n → get_or (xs ++ x ∷ []) s None ≡ get_or xs s None
    old_at x s h = at_before xs x None s (omega (arith, h, a.count))

    new_at : (x : Option ℕ) → get_or (xs ++ x ∷ []) n None ≡ x
    new_at x = ap (λ k. get_or (xs ++ x ∷ []) k None) (sym a.count) ∙ at_last xs x None

    unnumbered : has n ≡ false → AreNumbers (suc n) (xs ++ None ∷ [])
    unnumbered out = record {
      count = length-more xs None ∙ ap suc a.count;
      numbered = numbered-none 0 xs a.numbered;
      none = λ s h e. elim (cases_eq s n) [ inl is ↦ ap has is ∙ out | inr other ↦ (let l : s < n = omega (arith, h, other) in a.none s l (sym (old_at None s l) ∙ e)) ];
      some = λ s i h e. elim (cases_eq s n) [
        | inl is ↦ absurd (some≢none i (sym e ∙ ap (λ k. get_or (xs ++ None ∷ []) k None) is ∙ new_at None))
        | inr other ↦ (let l : s < n = omega (arith, h, other) in a.some s i l (sym (old_at None s l) ∙ e))
      ];
      joins = λ s t i hs ht es et. (let ls = before s i hs es in let lt = before t i ht et in a.joins s t i ls lt (sym (old_at None s ls) ∙ es) (sym (old_at None t lt) ∙ et));
      splits = λ s t i j hs ht es et e. (let ls = before s i hs es in let lt = before t j ht et in a.splits s t i j ls lt (sym (old_at None s ls) ∙ es) (sym (old_at None t lt) ∙ et) e);
    } where
      before : (s i : ℕ) → s < suc n → get_or (xs ++ None ∷ []) s None ≡ Some i → s < n
      before s i h e = elim (cases_eq s n) [
        | inl is ↦ absurd (some≢none i (sym e ∙ ap (λ k. get_or (xs ++ None ∷ []) k None) is ∙ new_at None))
        | inr other ↦ omega (arith, h, other)
      ]

    -- a number that the states before have exactly where they are in the part of n
    module _ (i : ℕ) (within : has n ≡ true) (low : i ≤ count_from 0 xs) (exactly : (t j : ℕ) → t < n → get_or xs t None ≡ Some j → (j ≡ i) ↔ (same t n ≡ true)) where
      numbers_more : AreNumbers (suc n) (xs ++ Some i ∷ [])
      numbers_more = record {
        count = length-more xs (Some i) ∙ ap suc a.count;
        numbered = numbered-some 0 xs i a.numbered low;
        none = λ s h e. elim (cases_eq s n) [
          | inl is ↦ absurd (some≢none i (sym (new_at (Some i)) ∙ sym (ap (λ k. get_or (xs ++ Some i ∷ []) k None) is) ∙ e))
          | inr other ↦ (let l : s < n = omega (arith, h, other) in a.none s l (sym (old_at (Some i) s l) ∙ e))
        ];
        some = λ s j h e. elim (cases_eq s n) [
          | inl is ↦ ap has is ∙ within
          | inr other ↦ (let l : s < n = omega (arith, h, other) in a.some s j l (sym (old_at (Some i) s l) ∙ e))
        ];
        joins = λ s t j hs ht es et. (let ps = place s j hs es in let pt = place t j ht et in joined s t j ps pt);
        splits = λ s t j k hs ht es et e. (let ps = place s j hs es in let pt = place t k ht et in split s t j k ps pt e);
      } where
        place : (s j : ℕ) → s < suc n → get_or (xs ++ Some i ∷ []) s None ≡ Some j → ((s ≡ n) × (j ≡ i)) ⊎ ((s < n) × (get_or xs s None ≡ Some j))
        place s j h e = elim (cases_eq s n) as (λ _. ((s ≡ n) × (j ≡ i)) ⊎ ((s < n) × (get_or xs s None ≡ Some j))) [
          | inl is ↦ inl (is, some-same j i (sym e ∙ ap (λ k. get_or (xs ++ Some i ∷ []) k None) is ∙ new_at (Some i)))
          | inr other ↦ (let l : s < n = omega (arith, h, other) in inr (l, sym (old_at (Some i) s l) ∙ e))
        ]

        joined : (s t j : ℕ) → ((s ≡ n) × (j ≡ i)) ⊎ ((s < n) × (get_or xs s None ≡ Some j)) → ((t ≡ n) × (j ≡ i)) ⊎ ((t < n) × (get_or xs t None ≡ Some j)) → same s t ≡ true
        joined s t j (inl p) (inl q) = ap (λ k. same k t) p.0 ∙ ap (λ k. same n k) q.0 ∙ refl_at n
        joined s t j (inl p) (inr q) = ap (λ k. same k t) p.0 ∙ sym_at t n ((exactly t j q.0 q.1).0 p.1)
        joined s t j (inr p) (inl q) = ap (λ k. same s k) q.0 ∙ (exactly s j p.0 p.1).0 q.1
        joined s t j (inr p) (inr q) = a.joins s t j p.0 q.0 p.1 q.1

        split : (s t j k : ℕ) → ((s ≡ n) × (j ≡ i)) ⊎ ((s < n) × (get_or xs s None ≡ Some j)) → ((t ≡ n) × (k ≡ i)) ⊎ ((t < n) × (get_or xs t None ≡ Some k)) → same s t ≡ true → j ≡ k
        split s t j k (inl p) (inl q) e = p.1 ∙ sym q.1
        split s t j k (inl p) (inr q) e = p.1 ∙ sym ((exactly t k q.0 q.1).1 (sym_at n t (sym (ap (λ x. same x t) p.0) ∙ e)))
        split s t j k (inr p) (inl q) e = (exactly s j p.0 p.1).1 (sym (ap (λ x. same s x) q.0) ∙ e) ∙ sym q.1
        split s t j k (inr p) (inr q) e = a.splits s t j k p.0 q.0 p.1 q.1 e

    -- the last state's number: that of an earlier state of its part, or a new one
    one_more : suc n ≤ limit → (ys : List (Option ℕ)) × AreNumbers (suc n) ys
    one_more room = elim (cases_Bool (has n)) as (λ _. (ys : List (Option ℕ)) × AreNumbers (suc n) ys) [
      | inr out ↦ (xs ++ None ∷ [], unnumbered out)
      | inl within ↦ (elim (find_below (λ t. has t && same t n) n) as (λ _. (ys : List (Option ℕ)) × AreNumbers (suc n) ys) [
        | inl w ↦ known within w.0 w.1 (and_parts (has w.0) (same w.0 n) w.2) (case-number (get_or xs w.0 None))
        | inr none ↦ (
          xs ++ Some (count_from 0 xs) ∷ [],
          numbers_more (count_from 0 xs) within (omega arith) (λ t j h e. (
            (λ is. (let l = numbered-below 0 xs t j a.numbered e in absurd (omega (arith, l, is)))),
            (λ it. absurd (false≢true (sym (none t h) ∙ and_from (has t) (same t n) (a.some t j h e) it))),
          )),
        )
      ])
    ] where
      known : has n ≡ true → (t : ℕ) → t < n → (has t ≡ true) × (same t n ≡ true)
          → (get_or xs t None ≡ None) ⊎ ((i : ℕ) × (get_or xs t None ≡ Some i)) → (ys : List (Option ℕ)) × AreNumbers (suc n) ys
      known within t h p (inl none) = absurd (false≢true (sym (a.none t h none) ∙ p.0))
      known within t h p (inr w) = (
        xs ++ Some w.0 ∷ [],
        numbers_more w.0 within (let l = numbered-below 0 xs t w.0 a.numbered w.1 in omega (arith, l)) (λ u j hu e. (
          (λ is. trans_at u t n (omega (arith, hu, room)) (omega (arith, h, room)) (omega (arith, room)) (a.joins u t w.0 hu h (e ∙ ap Some is) w.1) p.1),
          (λ it. a.splits u t j w.0 hu h e w.1 (trans_at u n t (omega (arith, hu, room)) (omega (arith, room)) (omega (arith, h, room)) it (sym_at t n p.1))),
        )),
      )

  pub numbers_exist : (n : ℕ) → n ≤ limit → (xs : List (Option ℕ)) × AreNumbers n xs
  numbers_exist zero room = (
    [],
    record {
      count = refl;
      numbered = refl;
      none = λ s h e. absurd (omega (arith, h));
      some = λ s i h e. absurd (omega (arith, h));
      joins = λ s t i hs ht es et. absurd (omega (arith, hs));
      splits = λ s t i j hs ht es et e. absurd (omega (arith, hs));
    },
  )
  numbers_exist (suc n) room = let w = numbers_exist n (omega (arith, room)) in one_more n w.0 w.1 room
