-- Sets of numbers below n that only grow, and don't once they are settled, grow at most n times. So no rank and no round is above the number of states.
use Rattle.std.proofs.Common.{◌≡◌, ◌⊎◌, inl, inr, ℕ, zero, suc, ◌+◌, ◌<◌, ◌≤◌, Bool, true, false, ◌||◌, ◌&&◌, not, eqb, T, ltb→lt, nat_lt}
use Rattle.std.proofs.Common.{◌==◌, lt-ltb, eq-eqb, List, [], ◌∷◌, length, slice_index, refl, sym, ap, subst, ◌∙◌, arith}
use Rattle.std.proofs.lemmas.{Bool.{false≢true, cases_Bool, cases_lt, ne_eqb, or_cases}, List.Elements.{All-from_get_or}, Map.Steps.{length-le_from_distinct_below}}
use Rattle.std.specs.List.{All, AllByRecursion, IsDistinct, list_any}
use borrow.Author.Tests.{eqb-true}
use Rattle.mdp_math.proofs.Booleans.{and-left, and-right, and-both, not_true, or-true}
use Rattle.mdp_spec.specs.{Mdp.{Mdp, states_of}, Row.{IsMdp}}
use Rattle.mdp_graph.specs.{Sets.{marked}, Layers.{reached, AreLeastRanks}, Rounds.{left_after, AreRounds}}
use Rattle.mdp_graph.proofs.{Falls.{case-any}, Reaching.{one-later, step-reaches}, Settling.{Rises, IsSettled}, StepsInside.{reached-more}}

-- ---- sets of which each holds the one before

module _ (sets : ℕ → ℕ → Bool) (n : ℕ) (grows : (k s : ℕ) → s < n → sets k s ≡ true → sets (suc k) s ≡ true)
    (stays : (k : ℕ) → IsSettled sets n grows k → IsSettled sets n grows (suc k)) where
  -- what set k + 1 has and set k hasn't
  abbrev IsNew : ℕ → ℕ → Type 0
  IsNew k t = (t < n) × (sets (suc k) t ≡ true) × (sets k t ≡ false)

  settled_or_new : (k : ℕ) → IsSettled sets n grows k ⊎ ((t : ℕ) × IsNew k t)
  settled_or_new k = elim (case-any (λ t. sets (suc k) t && not (sets k t)) n) as (λ _. IsSettled sets n grows k ⊎ ((t : ℕ) × IsNew k t)) [
    | inr none ↦ inl (λ s l e. elim (cases_Bool (sets k s)) [
      | inl is ↦ is
      | inr out ↦ absurd (false≢true (sym (none s l) ∙ and-both (sets (suc k) s) (not (sets k s)) e (ap not out)))
    ])
    | inl w ↦ inr (w.0, (w.1, and-left (sets (suc k) w.0) (not (sets k w.0)) w.2, not_true (sets k w.0) (and-right (sets (suc k) w.0) (not (sets k w.0)) w.2)))
  ]

  abbrev IsIn : ℕ → ℕ → Type 0
  IsIn k t = (t < n) × (sets (suc k) t ≡ true)

  -- k + 1 numbers of set k + 1, no two of them equal
  record Numbers (k : ℕ) : Type 0 where
    numbers : List ℕ
    distinct : IsDistinct eqb numbers
    inside : AllByRecursion (IsIn k) numbers
    count : length numbers ≡ suc k

  still_inside : (k : ℕ) (xs : List ℕ) → AllByRecursion (IsIn k) xs → AllByRecursion (IsIn (suc k)) xs
  still_inside k [] h = tt
  still_inside k (x ∷ xs) h = (((h.0).0, grows (suc k) x (h.0).0 (h.0).1), still_inside k xs h.1)

  others : (k t : ℕ) (xs : List ℕ) → sets (suc k) t ≡ false → AllByRecursion (IsIn k) xs → AllByRecursion (λ y. eqb t y ≡ false) xs
  others k t [] out h = tt
  others k t (x ∷ xs) out h = (ne_eqb t x (λ same. false≢true (sym out ∙ ap (sets (suc k)) same ∙ (h.0).1)), others k t xs out h.1)

  settled_or_many : (k : ℕ) → IsSettled sets n grows k ⊎ Numbers k
  unfolding IsDistinct
  settled_or_many zero = elim (settled_or_new 0) as (λ _. IsSettled sets n grows 0 ⊎ Numbers 0) [
    | inl is ↦ inl is
    | inr w ↦ inr (record { numbers = w.0 ∷ []; distinct = (tt, tt); inside = ((w.1.0, w.1.1), tt); count = refl })
  ]
  settled_or_many (suc k) = elim (settled_or_many k) as (λ _. IsSettled sets n grows (suc k) ⊎ Numbers (suc k)) [
    | inl is ↦ inl (stays k is)
    | inr many ↦ elim (settled_or_new (suc k)) as (λ _. IsSettled sets n grows (suc k) ⊎ Numbers (suc k)) [
      | inl is ↦ inl is
      | inr w ↦ inr (record {
        numbers = w.0 ∷ many.numbers;
        distinct = (others k w.0 many.numbers w.1.2 many.inside, many.distinct);
        inside = ((w.1.0, w.1.1), still_inside k many.numbers many.inside);
        count = ap suc many.count;
      })
    ]
  ]

  below_each : (k q : ℕ) (xs : List ℕ) → AllByRecursion (IsIn k) xs → list_any (eqb q) xs ≡ true → q < n
  below_each k q [] h e = absurd (false≢true e)
  below_each k q (x ∷ xs) h e = elim (or_cases (eqb q x) (list_any (eqb q) xs) e) [
    | inl same ↦ (let z = eqb-true q x same in let l = (h.0).0 in omega (arith, z, l))
    | inr rest ↦ below_each k q xs h.1 rest
  ]

  -- the first set that has s is one of the first n + 1
  few_sets : (r s : ℕ) → s < n → sets r s ≡ true → ((k : ℕ) → sets k s ≡ true → r ≤ k) → r ≤ n
  few_sets zero s h e least = omega arith
  few_sets (suc k) s h e least = elim (settled_or_many k) [
    | inl is ↦ absurd (let l = least k (is s h e) in omega (arith, l))
    | inr many ↦ (let l = length-le_from_distinct_below many.numbers n many.distinct (λ q a. below_each k q many.numbers many.inside a) in let c = many.count in omega (arith, l, c))
  ]

-- ---- ranks

module _ (step : (ℕ → Bool) → ℕ → Bool) (first : ℕ → Bool) (n : ℕ) (rises : Rises step n) where
  abbrev later : (k s : ℕ) → s < n → reached step first k s ≡ true → reached step first (suc k) s ≡ true
  later = λ k s h e. one-later step first k s e

  still_settled : (k : ℕ) → IsSettled (reached step first) n later k → IsSettled (reached step first) n later (suc k)
  unfolding reached
  still_settled k is s h e = elim (or_cases (reached step first (suc k) s) (step (reached step first (suc k)) s) e) [
    | inl before ↦ before
    | inr stepped ↦ step-reaches step first k s (rises (reached step first (suc k)) (reached step first k) is s h stepped)
  ]

  pub few_ranks : (marks : List Bool) (ranks : List ℕ) → AreLeastRanks step first n marks ranks → All (λ r. r ≤ n) ranks
  few_ranks marks ranks are = All-from_get_or (λ r. r ≤ n) ranks 0 (λ s l.
      let c = are.count in
      let h : s < n = omega (arith, l, c) in
      elim (cases_Bool (marked marks s)) [
        | inl is ↦
            few_sets (reached step first) n later still_settled (slice_index ranks s) s h (are.reaches s h is) (λ k e. are.least s k h e)
        | inr out ↦ (let z = are.zero s h out in omega (arith, z))
      ])

-- ---- rounds

lt_of_test : (a b : ℕ) → nat_lt a b ≡ true → a < b
lt_of_test a b e = ltb→lt a b (subst T (sym e) tt)

-- what is left after round i, by the round in which it is removed
is_left : (r i : ℕ) → (r ≡ 0) ⊎ (i < r) → ((r == 0) || nat_lt i r) ≡ true
is_left r i (inl e) = ap (λ b. b || nat_lt i r) (eq-eqb r 0 e)
is_left r i (inr l) = ap (λ b. (r == 0) || b) (lt-ltb i r l) ∙ or-true (r == 0)

of_left : (r i : ℕ) → ((r == 0) || nat_lt i r) ≡ true → (r ≡ 0) ⊎ (i < r)
of_left r i e = elim (or_cases (r == 0) (nat_lt i r) e) as (λ _. (r ≡ 0) ⊎ (i < r)) [ inl z ↦ inl (eqb-true r 0 z) | inr l ↦ inr (lt_of_test i r l) ]

module _ (m : Mdp) (ok : IsMdp m) (goals : List Bool) (rounds : List ℕ) (are : AreRounds m goals rounds) where
  removed : ℕ → ℕ → Bool
  removed i s = not (left_after rounds i s)

  left_before : (r i : ℕ) → ((r == 0) || nat_lt (suc i) r) ≡ true → ((r == 0) || nat_lt i r) ≡ true
  left_before r i e = elim (of_left r (suc i) e) [ inl z ↦ is_left r i (inl z) | inr l ↦ is_left r i (inr (omega (arith, l))) ]

  removed_grows : (k s : ℕ) → s < states_of m → removed k s ≡ true → removed (suc k) s ≡ true
  unfolding removed
  removed_grows k s h e = elim (cases_Bool (left_after rounds (suc k) s)) [
    | inl is ↦ absurd (false≢true (sym (not_true (left_after rounds k s) e) ∙ left_before (slice_index rounds s) k is))
    | inr out ↦ ap not out
  ]

  -- where a round removes none, the next one removes none
  removed_stays : (k : ℕ) → IsSettled removed (states_of m) removed_grows k → IsSettled removed (states_of m) removed_grows (suc k)
  unfolding removed
  removed_stays k is s h e =
      let next : suc k ≡ k + 1 = omega arith in
      let over : suc (suc k) ≡ suc k + 1 = omega arith in
      let kept : (t : ℕ) → t < states_of m → left_after rounds k t ≡ true → left_after rounds (suc k) t ≡ true = λ t l f. elim (cases_Bool (left_after rounds (suc k) t)) [
        | inl there ↦ there
        | inr out ↦ absurd (false≢true (sym (not_true (left_after rounds k t) (is t l (ap not out))) ∙ f))
      ] in
      elim (cases_Bool (left_after rounds (suc k) s)) [
        | inl there ↦
            (let way = (are.next k s h).0 (ap (λ i. left_after rounds i s) (sym next) ∙ there) in
            let more = reached-more m ok (left_after rounds k) (left_after rounds (suc k)) (marked goals) kept way.0 s h way.1 in
            let stays = (are.next (suc k) s h).1 (way.0, more) in
            absurd (false≢true (sym (not_true (left_after rounds (suc (suc k)) s) e) ∙ ap (λ i. left_after rounds i s) over ∙ stays)))
        | inr out ↦ ap not out
      ]

  pub few_rounds : All (λ r. r ≤ states_of m) rounds
  unfolding removed
  few_rounds = All-from_get_or (λ r. r ≤ states_of m) rounds 0 (λ s l.
      let c = are.count in
      let h : s < states_of m = omega (arith, l, c) in
      let r : ℕ = slice_index rounds s in
      elim (cases_Bool (left_after rounds (slice_index rounds s) s)) [
        | inl is ↦ (elim (of_left (slice_index rounds s) (slice_index rounds s) is) [ inl z ↦ omega (arith, z) | inr l ↦ absurd (omega (arith, l)) ])
        | inr out ↦ few_sets removed (states_of m) removed_grows removed_stays (slice_index rounds s) s h (ap not out) (λ k e.
            elim (cases_lt k (slice_index rounds s)) [
              | inl less ↦ absurd (false≢true (sym (not_true (left_after rounds k s) e) ∙ is_left (slice_index rounds s) k (inr less)))
              | inr most ↦ most
            ])
      ])
