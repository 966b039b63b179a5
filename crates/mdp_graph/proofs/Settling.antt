-- Sets of numbers below n that only grow settle. So each search by steps has ranks.
use Rattle.std.proofs.Common.{◌≡◌, ◌⊎◌, inl, inr, ℕ, zero, suc, ◌+◌, ◌-◌, ◌<◌, ◌≤◌, Bool, true, false, ◌&&◌}
use Rattle.std.proofs.Common.{not, nat_le, le-leb, cond, List, map, Option, Some, None, sym, ap, ◌∙◌, arith, zero-add}
use Rattle.std.proofs.lemmas.Bool.{false≢true, cases_Bool, cases_lt, cases_eq, or_cases, or_right}
use Rattle.std.proofs.lemmas.List.FromFn.{get_or-map-range_with_len, length-map-range_with_len}
use Rattle.std.specs.List.{range_with_len}
use borrow.Author.Tests.{leb-true}
use Rattle.mdp_math.proofs.Booleans.{and-left, and-right, and-both, not_true, false_of_not, same_truth}
use Rattle.mdp_graph.specs.Layers.{reached, at_most, AreRanks}
use Rattle.mdp_graph.proofs.{Falls.{case-any}, Reaching.{stays-reached, one-later}}

-- ---- how many numbers below n are in a set

unfoldable pub count_below : (ℕ → Bool) → ℕ → ℕ
count_below p zero = 0
count_below p (suc n) = count_below p n + cond (p n) 1 0

count-le : (p : ℕ → Bool) (n : ℕ) → count_below p n ≤ n
unfolding count_below
count-le p zero = omega arith
count-le p (suc n) = let l = count-le p n in elim (cases_Bool (p n)) [
  | inl e ↦ rw e (omega (arith, l))
  | inr e ↦ rw e (omega (arith, l))
]

pub count-more : (p q : ℕ → Bool) (n : ℕ) → ((s : ℕ) → s < n → p s ≡ true → q s ≡ true) → count_below p n ≤ count_below q n
unfolding count_below
count-more p q zero h = omega arith
count-more p q (suc n) h =
    let l = count-more p q n (λ s k e. h s (omega (arith, k)) e) in
    elim (cases_Bool (p n)) [
      | inl e ↦ (let f = h n (omega arith) e in rw (e, f) (omega (arith, l)))
      | inr e ↦ rw e (omega (arith, l))
    ]

count-less : (p q : ℕ → Bool) (n s : ℕ) → ((t : ℕ) → t < n → p t ≡ true → q t ≡ true) → s < n → p s ≡ false → q s ≡ true → count_below p n < count_below q n
unfolding count_below
count-less p q zero s h l out is = absurd (omega (arith, l))
count-less p q (suc n) s h l out is = elim (cases_eq s n) [
  | inl same ↦
      (let c = count-more p q n (λ t k e. h t (omega (arith, k)) e) in
      let here : p n ≡ false = sym (ap p same) ∙ out in
      let there : q n ≡ true = sym (ap q same) ∙ is in
      rw (here, there) (omega (arith, c)))
  | inr other ↦
      (let c = count-less p q n s (λ t k e. h t (omega (arith, k)) e) (omega (arith, l, other)) out is in
      elim (cases_Bool (p n)) [
        | inl e ↦ (let f = h n (omega arith) e in rw (e, f) (omega (arith, c)))
        | inr e ↦ rw e (omega (arith, c))
      ])
]

-- ---- sets of which each holds the one before

module _ (sets : ℕ → ℕ → Bool) (n : ℕ) (grows : (k s : ℕ) → s < n → sets k s ≡ true → sets (suc k) s ≡ true) where
  abbrev pub IsSettled : ℕ → Type 0
  IsSettled k = (s : ℕ) → s < n → sets (suc k) s ≡ true → sets k s ≡ true

  settled-or : (k : ℕ) → IsSettled k ⊎ (count_below (sets k) n < count_below (sets (suc k)) n)
  settled-or k = elim (case-any (λ s. sets (suc k) s && not (sets k s)) n) as (λ _. IsSettled k ⊎ (count_below (sets k) n < count_below (sets (suc k)) n)) [
    | inr none ↦ inl (λ s l e. elim (cases_Bool (sets k s)) [
      | inl is ↦ is
      | inr out ↦ absurd (false≢true (sym (none s l) ∙ and-both (sets (suc k) s) (not (sets k s)) e (ap not out)))
    ])
    | inl w ↦
        inr
        (count-less (sets k) (sets (suc k)) n w.0 (grows k) w.1 (not_true (sets k w.0) (and-right (sets (suc k) w.0) (not (sets k w.0)) w.2))
        (and-left (sets (suc k) w.0) (not (sets k w.0)) w.2))
  ]

  settled_from : (b k : ℕ) → n ≤ b + count_below (sets k) n → (j : ℕ) × IsSettled j
  settled_from zero k h = elim (settled-or k) as (λ _. (j : ℕ) × IsSettled j) [
    | inl is ↦ (k, is)
    | inr less ↦ absurd (let l = count-le (sets (suc k)) n in omega (arith, l, less, h))
  ]
  settled_from (suc b) k h = elim (settled-or k) as (λ _. (j : ℕ) × IsSettled j) [
    | inl is ↦ (k, is)
    | inr less ↦ settled_from b (suc k) (omega (arith, less, h))
  ]

  pub settles : (k : ℕ) × IsSettled k
  settles = settled_from n 0 (omega arith)

-- ---- the least number below n that passes a test

abbrev pub NoneOrLeast : (ℕ → Bool) → ℕ → Type 0
NoneOrLeast test n = ((i : ℕ) → i < n → test i ≡ false) ⊎ ((i : ℕ) × (i < n) × (test i ≡ true) × ((j : ℕ) → j < i → test j ≡ false))

pub least_below : (test : ℕ → Bool) (n : ℕ) → NoneOrLeast test n
least_below test zero = inl (λ i l. absurd (omega (arith, l)))
least_below test (suc n) = elim (least_below test n) as (λ _. NoneOrLeast test (suc n)) [
  | inr w ↦ inr (w.0, omega (arith, w.1), w.2, w.3)
  | inl none ↦ (elim (cases_Bool (test n)) as (λ _. NoneOrLeast test (suc n)) [
    | inl e ↦ inr (n, omega arith, e, none)
    | inr e ↦ inl (λ i l. elim (cases_eq i n) [ inl same ↦ ap test same ∙ e | inr other ↦ none i (omega (arith, l, other)) ])
  ])
]

abbrev rank_by : (test : ℕ → Bool) (n : ℕ) → NoneOrLeast test n → Option ℕ
rank_by test n (inl none) = None
rank_by test n (inr w) = Some w.0

-- ---- the ranks of a search

-- a step leads from more states where it may lead to more
abbrev pub Rises : ((ℕ → Bool) → ℕ → Bool) → ℕ → Type 0
Rises step n = (p q : ℕ → Bool) → ((t : ℕ) → t < n → p t ≡ true → q t ≡ true) → (s : ℕ) → s < n → step p s ≡ true → step q s ≡ true

module _ (step : (ℕ → Bool) → ℕ → Bool) (first : ℕ → Bool) (n : ℕ) (rises : Rises step n) (most : ℕ)
    (settled : (s : ℕ) → s < n → reached step first (suc most) s ≡ true → reached step first most s ≡ true) where
  settled_on : (d s : ℕ) → s < n → reached step first (d + most) s ≡ true → reached step first most s ≡ true
  unfolding reached
  settled_on zero s h e = let z : 0 + most ≡ most = omega arith in sym (ap (λ i. reached step first i s) z) ∙ e
  settled_on (suc d) s h e =
      let z : suc d + most ≡ suc (d + most) = omega arith in
      elim (or_cases (reached step first (d + most) s) (step (reached step first (d + most)) s) (sym (ap (λ i. reached step first i s) z) ∙ e)) [
        | inl before ↦ settled_on d s h before
        | inr stepped ↦
            settled s h
            (or_right (reached step first most s) (step (reached step first most) s) (rises (reached step first (d + most)) (reached step first most) (settled_on d) s h stepped))
      ]

  -- what is reached at all is reached by then
  by_most : (k s : ℕ) → s < n → reached step first k s ≡ true → reached step first most s ≡ true
  by_most k s h e = let z : most + k ≡ k + most = omega arith in settled_on k s h (sym (ap (λ i. reached step first i s) z) ∙ stays-reached step first most k s e)

  rank-least : (k s : ℕ) (found : NoneOrLeast (λ i. reached step first i s) (suc most)) → s < n
      → at_most k (rank_by (λ i. reached step first i s) (suc most) found) ≡ reached step first k s
  rank-least k s (inl none) h = sym (false_of_not (reached step first k s) (λ e. false≢true (sym (none most (omega arith)) ∙ by_most k s h e)))
  rank-least k s (inr w) h =
      same_truth (nat_le w.0 k) (reached step first k s)
      (λ e. (let l = leb-true w.0 k e in let z : k - w.0 + w.0 ≡ k = omega (arith, l) in sym (ap (λ i. reached step first i s) z) ∙ stays-reached step first (k - w.0) w.0 s w.2))
      (λ e. elim (cases_lt k w.0) [ inl less ↦ absurd (false≢true (sym (w.3 k less) ∙ e)) | inr l ↦ le-leb w.0 k l ])

  rank : ℕ → Option ℕ
  rank s = rank_by (λ i. reached step first i s) (suc most) (least_below (λ i. reached step first i s) (suc most))

  ranks_to : (ranks : List (Option ℕ)) × AreRanks step first n ranks
  unfolding rank
  ranks_to = (
    map rank (range_with_len 0 n),
    record {
      count = length-map-range_with_len rank 0 n;
      least = λ k s h.
          ap (at_most k) (get_or-map-range_with_len rank 0 n s s None h (zero-add s)) ∙ rank-least k s (least_below (λ i. reached step first i s) (suc most)) h;
    },
  )

pub ranks_exist : (step : (ℕ → Bool) → ℕ → Bool) (first : ℕ → Bool) (n : ℕ) → Rises step n → (ranks : List (Option ℕ)) × AreRanks step first n ranks
ranks_exist step first n rises =
    let w = settles (reached step first) n (λ k s h e. one-later step first k s e) in ranks_to step first n rises w.0 w.1
