-- States that are marked as reached have least ranks.
use Rattle.std.proofs.Common.{◌≡◌, ℕ, zero, suc, ◌+◌, ◌<◌, ◌≤◌, Bool, true, false, nat_lt, List, map, refl, sym, subst, T, lt-ltb, ltb→lt, arith}
use Rattle.std.proofs.{lemmas.Bool.{ltb-false}, lemmas.List.FromFn.{length-map-range_with_len, get_or-map-range_with_len}}
use Rattle.std.specs.{Prelude.{slice_index}, List.{range_with_len}}
use Rattle.mdp_graph.specs.{Sets.{marked}, Layers.{reached, AreReached, AreLeastRanks}}

-- ---- the least number that passes

pub record IsLeast (p : ℕ → Bool) (k : ℕ) : Type 0 where
  pub passes : p k ≡ true
  pub least : (j : ℕ) → p j ≡ true → k ≤ j

module _ (p : ℕ → Bool) where
  not_before : (i j : ℕ) → ((k : ℕ) → k < i → p k ≡ false) → p j ≡ true → i ≤ j
  not_before i j none e = by (nat_lt j i) refl
    where
      by : (b : Bool) → nat_lt j i ≡ b → i ≤ j
      by true l = let n = none j (ltb→lt j i (subst T (sym l) tt)) in cc (n, e)
      by false l = ltb-false j i l

  more_none : (i : ℕ) → ((k : ℕ) → k < i → p k ≡ false) → p i ≡ false → (k : ℕ) → k < suc i → p k ≡ false
  more_none i none e k l = by (nat_lt k i) refl
    where
      by : (b : Bool) → nat_lt k i ≡ b → p k ≡ false
      by true h = none k (ltb→lt k i (subst T (sym h) tt))
      by false h = let i≤k = ltb-false k i h in let same : k ≡ i = omega (arith, l, i≤k) in subst (λ (j : ℕ). p j ≡ false) (sym same) e

  -- where i doesn't pass, as found behind it
  at_first : (i : ℕ) → ((k : ℕ) → k < i → p k ≡ false) → (b : Bool) → p i ≡ b → (p i ≡ false → (k : ℕ) × IsLeast p k) → (k : ℕ) × IsLeast p k
  at_first i none true e behind = (i, record { passes = e; least = λ j h. not_before i j none h })
  at_first i none false e behind = behind e

  -- from i on, where one of the next so many passes
  least_from : (left i : ℕ) → p (i + left) ≡ true → ((k : ℕ) → k < i → p k ≡ false) → (k : ℕ) × IsLeast p k
  least_from zero i e none =
      let same : i + 0 ≡ i = omega arith in (i, record { passes = subst (λ (j : ℕ). p j ≡ true) same e; least = λ j h. not_before i j none h })
  least_from (suc left) i e none =
      let same : i + suc left ≡ suc i + left = omega arith in
      at_first i none (p i) refl (λ h. least_from left (suc i) (subst (λ (j : ℕ). p j ≡ true) same e) (more_none i none h))

  pub least_of : (k : ℕ) → p k ≡ true → (j : ℕ) × IsLeast p j
  least_of k e = let same : k ≡ 0 + k = omega arith in least_from k 0 (subst (λ (j : ℕ). p j ≡ true) same e) (λ j l. absurd (omega (arith, l)))

-- ---- the ranks of the states

module _ (step : (ℕ → Bool) → ℕ → Bool) (first : ℕ → Bool) (n : ℕ) (marks : List Bool) (are : AreReached step first n marks) where
  record IsRank (s r : ℕ) : Type 0 where
    pub reaches : marked marks s ≡ true → reached step first r s ≡ true
    pub least : marked marks s ≡ true → (k : ℕ) → reached step first k s ≡ true → r ≤ k
    pub zero : marked marks s ≡ false → r ≡ 0

  rank_at : (s : ℕ) → s < n → (b : Bool) → marked marks s ≡ b → (r : ℕ) × IsRank s r
  rank_at s l true e =
      let w = (are.marks_reached s l).0 e in
      let k = least_of (λ j. reached step first j s) w.0 w.1 in
      (k.0, record { reaches = λ h. k.1.passes; least = λ h j is. k.1.least j is; zero = λ h. cc (h, e) })
  rank_at s l false e = (0, record { reaches = λ h. cc (h, e); least = λ h. cc (h, e); zero = λ h. refl })

  rank_if : (s : ℕ) (b : Bool) → nat_lt s n ≡ b → (r : ℕ) × (s < n → IsRank s r)
  rank_if s true e = let w = rank_at s (ltb→lt s n (subst T (sym e) tt)) (marked marks s) refl in (w.0, λ l. w.1)
  rank_if s false e = (0, λ l. let h = lt-ltb s n l in cc (h, e))

  pub rank : ℕ → ℕ
  rank s = (rank_if s (nat_lt s n) refl).0

  abbrev pub ranks_of : List ℕ
  ranks_of = map rank (range_with_len 0 n)

  is_rank : (s : ℕ) → s < n → IsRank s (slice_index ranks_of s)
  unfolding rank rank_if
  is_rank s l =
      let at : slice_index ranks_of s ≡ rank s = get_or-map-range_with_len rank 0 n s s 0 l (omega arith) in
      subst (IsRank s) (sym at) ((rank_if s (nat_lt s n) refl).1 l)

  marked_of : (s k : ℕ) → s < n → reached step first k s ≡ true → marked marks s ≡ true
  marked_of s k l e = (are.marks_reached s l).1 (k, e)

  pub least_ranks : AreLeastRanks step first n marks ranks_of
  least_ranks = record {
    count = length-map-range_with_len rank 0 n;
    reaches = λ s l e. IsRank.reaches (is_rank s l) e;
    least = λ s k l e. IsRank.least (is_rank s l) (marked_of s k l e) k e;
    zero = λ s l e. IsRank.zero (is_rank s l) e;
  }
