-- Whether one list of values is at most another at each of the first n nodes.
use Rattle.std.proofs.Common.{◌≡◌, ℕ, zero, suc, ◌<◌, inl, inr, Bool, true, false, true≢false, not, ◌&&◌, refl, sym, ◌∙◌, ap, subst, arith}
use Rattle.mdp_math.proofs.{Booleans.{and-left, and-right, and-both, not_true, false_of_not}, Order.{≤ℚ_refl, ≤ℚ_trans, clash_ℚ}}
use Rattle.mdp_math.proofs.{Extremes.{le_of_test, test_of_le}, Numbers.{last_or}}
use Rattle.mdp_math.specs.Rational.{ℚ, le_ℚ, ◌≤ℚ◌, ◌<ℚ◌}

abbrev pub le_all : (ℕ → ℚ) → (ℕ → ℚ) → ℕ → Bool
le_all x y zero = true
le_all x y (suc n) = le_ℚ (x n) (y n) && le_all x y n

module _ (x y : ℕ → ℚ) where
  le_all-at : (n s : ℕ) → le_all x y n ≡ true → s < n → x s ≤ℚ y s
  le_all-at zero s h l = absurd (omega arith)
  le_all-at (suc n) s h l = elim (last_or n s l) as (λ _. x s ≤ℚ y s) [
    | inl e ↦ subst (λ k. x k ≤ℚ y k) (sym e) (le_of_test (x n) (y n) (and-left (le_ℚ (x n) (y n)) (le_all x y n) h))
    | inr k ↦ le_all-at n s (and-right (le_ℚ (x n) (y n)) (le_all x y n) h) k
  ]

  le_all-from : (n : ℕ) → ((s : ℕ) → s < n → x s ≤ℚ y s) → le_all x y n ≡ true
  le_all-from zero h = refl
  le_all-from (suc n) h =
      and-both (le_ℚ (x n) (y n)) (le_all x y n) (test_of_le (x n) (y n) (h n (omega arith))) (le_all-from n (λ s l. h s (omega arith)))

-- at most everywhere, and not at least everywhere
abbrev pub less_all : (ℕ → ℚ) → (ℕ → ℚ) → ℕ → Bool
less_all x y n = le_all x y n && not (le_all y x n)

true_not : (a : Bool) → not a ≡ true → a ≡ true → ⊥
true_not a e h = true≢false (sym h ∙ not_true a e)

not_here : (a : Bool) → (a ≡ true → ⊥) → not a ≡ true
not_here a h = ap not (false_of_not a h)

pub less_all-after : (x y z : ℕ → ℚ) (n : ℕ) → ((s : ℕ) → s < n → x s ≤ℚ y s) → less_all y z n ≡ true → less_all x z n ≡ true
less_all-after x y z n h k =
    let l = le_all-at y z n in
    let yz = and-left (le_all y z n) (not (le_all z y n)) k in
    let zy = and-right (le_all y z n) (not (le_all z y n)) k in
    and-both (le_all x z n) (not (le_all z x n)) (le_all-from x z n (λ s i. ≤ℚ_trans (x s) (y s) (z s) (h s i) (l s yz i)))
    (not_here (le_all z x n) (λ e. true_not (le_all z y n) zy (le_all-from z y n (λ s i. ≤ℚ_trans (z s) (x s) (y s) (le_all-at z x n s e i) (h s i)))))

pub less_all-own : (x : ℕ → ℚ) (n : ℕ) → less_all x x n ≡ false
less_all-own x n = ap (λ (b : Bool). b && not b) (le_all-from x x n (λ s l. ≤ℚ_refl (x s)))

pub less_all-from : (x y : ℕ → ℚ) (n s : ℕ) → ((s : ℕ) → s < n → x s ≤ℚ y s) → s < n → x s <ℚ y s → less_all x y n ≡ true
less_all-from x y n s h l q =
    and-both (le_all x y n) (not (le_all y x n)) (le_all-from x y n h) (not_here (le_all y x n) (λ e. clash_ℚ (x s) (y s) q (le_all-at y x n s e l)))
