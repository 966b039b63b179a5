-- Why an improved policy leaves its active nodes again, where what is earned on the way doesn't help.
--
-- v are the values of the old policy, and rk its ranks, 0 at nodes that stop. Order the nodes by how many have a greater value, and among
-- equals by rk. On a row of the next policy some entry leads to a smaller node: either to one of greater value; or, where there is none, what is
-- weighed is at most v(s), so the node wasn't changed, all its entries lead to nodes of value v(s), and the old rank falls.
use Rattle.std.proofs.Common.{◌≡◌, ℕ, suc, ◌+◌, ◌*◌, ◌<◌, ◌≤◌, ◌⊎◌, inl, inr, Bool, true, false, T, List, [], ◌∷◌, get_or, refl, sym, ap, subst, arith, pos}
use Rattle.std.proofs.lemmas.List.Elements.{All-nil, All-cons}
use Rattle.std.specs.List.{All, Any}
use Rattle.mdp_math.proofs.{Booleans.{true_of_T}, Ring.{◌⊕◌, ◌⊗◌, lit}, Linear.{linear, equal, known}}
use Rattle.mdp_math.proofs.{Order.{0ℚ, 1ℚ, ≤ℚ_of_lt, ≤ℚ_or_gt, <ℚ_trans, <ℚ_irrefl, clash_ℚ}, Kernel.{Any-and, weigh-le_const, weigh-reaches_greatest}}
use Rattle.mdp_math.specs.{Rational.{ℚ, lt_ℚ, ◌+ℚ◌, ◌*ℚ◌, ◌≤ℚ◌, ◌<ℚ◌}, Sum.{sum_of}, Kernel.{weigh}}
use Rattle.mdp_policy_iteration.proofs.Counting.{count_below, count-lt, pair_lt}

-- ---- the test of the strict order

pub lt_of_test : (x y : ℚ) → lt_ℚ x y ≡ true → x <ℚ y
lt_of_test x y e = record { lt = subst T (sym e) tt }

pub test_of_lt : (x y : ℚ) → x <ℚ y → lt_ℚ x y ≡ true
test_of_lt x y h = true_of_T (lt_ℚ x y) h.lt

pub test_irrefl : (x : ℚ) → lt_ℚ x x ≡ false
test_irrefl x = go (lt_ℚ x x) refl
  where
    go : (b : Bool) → lt_ℚ x x ≡ b → b ≡ false
    go true e = absurd (<ℚ_irrefl x (lt_of_test x x e))
    go false e = refl

-- ---- ranks

module _ (v : ℕ → ℚ) (n : ℕ) where
  -- how many nodes have a greater value
  pub above : ℕ → ℕ
  above s = count_below (λ t. lt_ℚ (v s) (v t)) n

  pub above-less : (s t : ℕ) → t < n → v s <ℚ v t → above t < above s
  unfolding above
  above-less s t l h =
      count-lt (λ u. lt_ℚ (v t) (v u)) (λ u. lt_ℚ (v s) (v u)) n t
      (λ u m e. test_of_lt (v s) (v u) (<ℚ_trans (v s) (v t) (v u) h (lt_of_test (v t) (v u) e)))
      l (test_irrefl (v t)) (test_of_lt (v s) (v t) h)

  pub above-same : (s t : ℕ) → v t ≡ v s → above t ≡ above s
  unfolding above
  above-same s t e = ap (λ (x : ℚ). count_below (λ u. lt_ℚ x (v u)) n) e

  module _ (rk : ℕ → ℕ) (most : ℕ) where
    pub next_rank : ℕ → ℕ
    next_rank s = above s * suc most + rk s

    pub next_rank-above : (s t : ℕ) → t < n → v s <ℚ v t → rk t ≤ most → next_rank t < next_rank s
    unfolding next_rank
    next_rank-above s t l h m = pair_lt (above t) (above s) most (rk t) (rk s) (above-less s t l h) m

    pub next_rank-same : (s t : ℕ) → v t ≡ v s → rk t < rk s → next_rank t < next_rank s
    unfolding next_rank
    next_rank-same s t e l = let q : above t * suc most ≡ above s * suc most = ap (λ k. k * suc most) (above-same s t e) in omega arith

    module _ {A : Type 0} (index : A → ℕ) (entry : A → ℚ) where
      -- some entry leads to a greater value, or none does
      any_or_none : (m : ℚ) (row : List A) → Any (λ x. m <ℚ v (index x)) row ⊎ All (λ x. v (index x) ≤ℚ m) row
      any_or_none m [] = inr (All-nil (λ x. v (index x) ≤ℚ m))
      any_or_none m (x ∷ row) = elim (≤ℚ_or_gt (v (index x)) m) as (λ _. Any (λ y. m <ℚ v (index y)) (x ∷ row) ⊎ All (λ y. v (index y) ≤ℚ m) (x ∷ row)) [
        | inr g ↦ inl (0, x, omega arith, refl, g)
        | inl l ↦ elim (any_or_none m row) as (λ _. Any (λ y. m <ℚ v (index y)) (x ∷ row) ⊎ All (λ y. v (index y) ≤ℚ m) (x ∷ row)) [
          | inl h ↦ inl (suc h.0, h.1, omega (arith, h.2), h.3, h.4)
          | inr h ↦ inr (All-cons (λ y. v (index y) ≤ℚ m) x row l h)
        ]
      ]

      -- one row of the next policy
      pub falls_again : (s : ℕ) (c : ℚ) (row : List A) → All (λ x. 0ℚ <ℚ entry x) row → All (λ x. index x < n) row → All (λ x. rk (index x) ≤ most) row → sum_of entry row ≡ 1ℚ → c ≤ℚ 0ℚ
          → (v s <ℚ c +ℚ weigh index entry v row) ⊎ ((v s ≤ℚ c +ℚ weigh index entry v row) × Any (λ x. rk (index x) < rk s) row)
          → Any (λ x. next_rank (index x) < next_rank s) row
      falls_again s c row positive range ranks mass loss change =
          let entries : All (λ x. 0ℚ ≤ℚ entry x) row = λ k d l. ≤ℚ_of_lt 0ℚ _ (positive k d l) in
          elim (any_or_none (v s) row) as (λ _. Any (λ x. next_rank (index x) < next_rank s) row) [
            | inl h ↦ (
              h.0,
              h.1,
              h.2,
              h.3,
              next_rank-above s (index h.1) (at_found h.0 h.1 (λ x. index x < n) h.3 (range h.0 h.1 h.2)) h.4
                  (at_found h.0 h.1 (λ x. rk (index x) ≤ most) h.3 (ranks h.0 h.1 h.2)),
            )
            | inr none ↦
                let small : weigh index entry v row ≤ℚ v s *ℚ sum_of entry row = weigh-le_const index entry v (v s) row entries none in
                elim change as (λ _. Any (λ x. next_rank (index x) < next_rank s) row) [
                  | inl better ↦ absurd (clash_ℚ (v s) (c +ℚ weigh index entry v row) better
                      (linear 4 (λ x c w m. c ⊕ w) (λ x c w m. x) (λ x c w m. known c (lit (pos 0)) ∷ known w (x ⊗ m) ∷ equal x m (lit (pos 1)) ∷ []) refl (v s) c (weigh index entry v row)
                      (sum_of entry row) loss small mass))
                  | inr kept ↦
                      let reached : v s *ℚ sum_of entry row ≤ℚ weigh index entry v row =
                      linear 4 (λ x c w m. x ⊗ m) (λ x c w m. w) (λ x c w m. known x (c ⊕ w) ∷ known c (lit (pos 0)) ∷ equal x m (lit (pos 1)) ∷ []) refl (v s) c (weigh index entry v row)
                      (sum_of entry row) kept.0 loss mass in
                      let same = weigh-reaches_greatest index entry v (v s) row entries none reached in
                      let both = Any-and (λ x. (0ℚ <ℚ entry x → v (index x) ≡ v s) × (0ℚ <ℚ entry x)) (λ x. rk (index x) < rk s) row (λ k d l. (same k d l, positive k d l)) kept.1 in
                      (both.0, both.1, both.2, both.3, next_rank-same s (index both.1) (both.4.0.0 both.4.0.1) both.4.1)
                ]
          ]
        where
          at_found : (k : ℕ) (x : A) (P : A → Type 0) → get_or row k x ≡ x → P (get_or row k x) → P x
          at_found k x P e h = subst P e h
