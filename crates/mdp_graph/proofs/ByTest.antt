-- Ranks of a given model, tested by computation.
use Rattle.std.proofs.Common.{◌≡◌, inl, inr, ℕ, suc, zero, ◌+◌, ◌<◌, ◌≤◌, Bool, true, false, not, ◌||◌, ◌&&◌, nat_le, cond, List, [], ◌∷◌, length, get_or, refl, sym, ap}
use Rattle.std.proofs.{Common.{◌∙◌, arith, Option, Some, is_some, is_none}, lemmas.Bool.{false≢true, cases_eq}}
use Rattle.std.specs.List.{list_any}
use borrow.Author.Tests.{leb-true}
use Rattle.mdp_spec.specs.{Mdp.{Choice, Mdp, no_choice, states_of, choices_at, row_at}, Row.{IsMdp}}
use Rattle.mdp_graph.specs.{Sets.{marked, can_enter, stays_in}, Reach.{may_step}, Sure.{inside_step}, Layers.{reached, rank_at, at_most, AreRanks}}
use Rattle.mdp_graph.specs.{Ranking.{unranked}, NextLayer.{is_ranked}}
use Rattle.mdp_graph.proofs.{Meeting.{Respects, IsMeeting, met_all}, RowSets.{enters-same}}
use Rattle.mdp_math.proofs.Booleans.{and-left, and-right}

unfoldable pub agree : Bool → Bool → Bool
agree a b = cond a b (not b)

agreed : (a b : Bool) → agree a b ≡ true → a ≡ b
unfolding agree
agreed true b e = sym e
agreed false true e = absurd (false≢true e)
agreed false false e = refl

-- two sets have the same numbers below n
unfoldable pub same_below : (ℕ → Bool) → (ℕ → Bool) → ℕ → Bool
same_below p q zero = true
same_below p q (suc n) = agree (p n) (q n) && same_below p q n

same-at : (p q : ℕ → Bool) (n : ℕ) → same_below p q n ≡ true → (s : ℕ) → s < n → p s ≡ q s
unfolding same_below
same-at p q zero e s h = absurd (omega (arith, h))
same-at p q (suc n) e s h = elim (cases_eq s n) [
  | inl same ↦ ap p same ∙ agreed (p n) (q n) (and-left (agree (p n) (q n)) (same_below p q n) e) ∙ sym (ap q same)
  | inr other ↦ same-at p q n (and-right (agree (p n) (q n)) (same_below p q n) e) s (omega (arith, h, other))
]

module _ (step : (ℕ → Bool) → ℕ → Bool) (first : ℕ → Bool) (n : ℕ) (ranks : List (Option ℕ)) where
  -- the states of rank at most j are those that are reached in j steps, for each j up to k
  unfoldable pub ranks_to : ℕ → Bool
  ranks_to zero = same_below (λ s. at_most 0 (rank_at ranks s)) (reached step first 0) n
  ranks_to (suc k) = same_below (λ s. at_most (suc k) (rank_at ranks s)) (reached step first (suc k)) n && ranks_to k

  -- and no step leads from another state to one with a rank
  unfoldable pub ranks_test : ℕ → Bool
  ranks_test k =
      ranks_to k && (same_below (λ s. is_none (rank_at ranks s) && step (is_ranked ranks) s) (λ _. false) n &&
      (same_below (λ s. at_most k (rank_at ranks s)) (is_ranked ranks) n && nat_le (k + unranked ranks) n))

  to-at : (k : ℕ) → ranks_to k ≡ true → (j s : ℕ) → j ≤ k → s < n → at_most j (rank_at ranks s) ≡ reached step first j s
  unfolding ranks_to
  to-at zero e j s low h = let z : j ≡ 0 = omega (arith, low) in ap (λ i. at_most i (rank_at ranks s)) z
      ∙ same-at (λ t. at_most 0 (rank_at ranks t)) (reached step first 0) n e s h ∙ ap (λ i. reached step first i s) (sym z)
  to-at (suc k) e j s low h = elim (cases_eq j (suc k)) [
    | inl same ↦
        ap (λ i. at_most i (rank_at ranks s)) same
        ∙ same-at (λ t. at_most (suc k) (rank_at ranks t)) (reached step first (suc k)) n
        (and-left (same_below (λ t. at_most (suc k) (rank_at ranks t)) (reached step first (suc k)) n) (ranks_to k) e) s h
        ∙ ap (λ i. reached step first i s) (sym same)
    | inr other ↦ to-at k (and-right (same_below (λ t. at_most (suc k) (rank_at ranks t)) (reached step first (suc k)) n) (ranks_to k) e) j s (omega (arith, low, other)) h
  ]

  top-of : (k r : ℕ) (o : Option ℕ) → o ≡ Some r → at_most k o ≡ is_some o → r ≤ k
  top-of k r o e same = leb-true r k (sym (ap (at_most k) e) ∙ same ∙ ap is_some e)

  pub tested_ranks : Respects step n → length ranks ≡ n → (k : ℕ) → ranks_test k ≡ true → AreRanks step first n ranks
  unfolding ranks_test
  tested_ranks respects count k e =
      let to = and-left (ranks_to k) _ e in
      let more = and-right (ranks_to k) _ e in
      let none = and-left (same_below (λ s. is_none (rank_at ranks s) && step (is_ranked ranks) s) (λ _. false) n) _ more in
      let last = and-right (same_below (λ s. is_none (rank_at ranks s) && step (is_ranked ranks) s) (λ _. false) n) _ more in
      let top = and-left (same_below (λ s. at_most k (rank_at ranks s)) (is_ranked ranks) n) _ last in
      let left = and-right (same_below (λ s. at_most k (rank_at ranks s)) (is_ranked ranks) n) (nat_le (k + unranked ranks) n) last in
      let meeting : IsMeeting step first n ranks [] k = record {
        count = count;
        at = to-at k to;
        top = λ s r h is. top-of k r (rank_at ranks s) is (same-at (λ t. at_most k (rank_at ranks t)) (is_ranked ranks) n top s h);
        met = λ s h. sym (same-at (λ t. is_none (rank_at ranks t) && step (is_ranked ranks) t) (λ _. false) n none s h);
        below = λ s is. absurd (false≢true is);
        left = leb-true (k + unranked ranks) n left;
      } in
      met_all step first n respects ranks [] k meeting refl

-- ---- steps depend on the states of the model alone

any-same : {X : Type 0} (p q : X → Bool) (xs : List X) (d : X) → ((i : ℕ) → i < length xs → p (get_or xs i d) ≡ q (get_or xs i d)) → list_any p xs ≡ list_any q xs
any-same p q [] d e = refl
any-same p q (x ∷ xs) d e = ap (λ b. b || list_any p xs) (e 0 (omega arith)) ∙ ap (λ b. q x || b) (any-same p q xs d (λ i h. e (suc i) (omega (arith, h))))

pub may_respects : (m : Mdp) (blocked : List Bool) → IsMdp m → Respects (may_step m blocked) (states_of m)
may_respects m blocked ok p q same s h =
    ap (λ b. not (marked blocked s) && b)
    (any-same (λ (x : Choice). can_enter p x.row) (λ (x : Choice). can_enter q x.row) (choices_at m s) no_choice
    (λ c k. (let row = ok.row s c h k in enters-same p q (row_at m s c) (states_of m) row.in_range same)))

pub inside_respects : (m : Mdp) (inside : ℕ → Bool) → IsMdp m → Respects (inside_step m inside) (states_of m)
inside_respects m inside ok p q same s h =
    any-same (λ (x : Choice). stays_in inside x.row && can_enter p x.row) (λ (x : Choice). stays_in inside x.row && can_enter q x.row) (choices_at m s) no_choice
    (λ c k. (let row = ok.row s c h k in ap (λ b. stays_in inside (row_at m s c) && b) (enters-same p q (row_at m s c) (states_of m) row.in_range same)))
