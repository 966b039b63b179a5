-- Of two numbers the one that the test keeps is as good as both. What is kept over choices and states is as good as each of their rewards, and is the
-- first number or one of them.
use Rattle.std.proofs.Common.{◌≡◌, ℕ, ◌+◌, ◌<◌, ◌⊎◌, inl, inr, true, false, length, refl, sym, ◌∙◌, subst, arith}
use Rattle.mdp_math.specs.{Rational.{ℚ}, Written.{cmp_ℚ}}
use Rattle.mdp_math.proofs.{Numbers.{last_or}, Order.{≤ℚ_refl, ≤ℚ_trans}}
use Rattle.mdp_spec.specs.{Mdp.{Mdp, states_of, choices_at, choice_at}, Unit.{reward_of}}
use Rattle.mdp_rows.specs.{Better.{IsAsGood, is_better}, declared.dir.Dir.{Dir}, declared.dir.Dir.TheVariants.{Max, Min}}
use Rattle.mdp_farkas.proofs.Spreading.{AsGood, as_good_same, taken}
use Rattle.mdp_search_bounds.specs.Extent.{IsAsGoodAt, IsAsGoodBelow, IsEarned}

of_as_good : (dir : Dir) (x y : ℚ) → AsGood dir x y → IsAsGood dir y x
of_as_good Max x y h = h
of_as_good Min x y h = h

pub good_same : (dir : Dir) (x : ℚ) → IsAsGood dir x x
good_same Max x = ≤ℚ_refl x
good_same Min x = ≤ℚ_refl x

pub good_trans : (dir : Dir) (x y z : ℚ) → IsAsGood dir x y → IsAsGood dir y z → IsAsGood dir x z
good_trans Max x y z h k = ≤ℚ_trans z y x k h
good_trans Min x y z h k = ≤ℚ_trans x y z h k

pub good_of_test : (dir : Dir) (x best : ℚ) → is_better dir (cmp_ℚ x best) ≡ true → IsAsGood dir x best
good_of_test dir x best t = of_as_good dir best x (taken dir best x x (cmp_ℚ x best) true refl t (as_good_same dir x)).0

pub good_of_no_test : (dir : Dir) (x best : ℚ) → is_better dir (cmp_ℚ x best) ≡ false → IsAsGood dir best x
good_of_no_test dir x best t = of_as_good dir x best (taken dir best x best (cmp_ℚ x best) false refl t (as_good_same dir best)).1

-- ---- one more choice, one more state

module _ (dir : Dir) (m : Mdp) (r : ℕ) (old x : ℚ) (as_old : IsAsGood dir x old) where
  at_by : (s n c : ℕ) → IsAsGoodAt dir m r old s n → IsAsGood dir x (reward_of (choice_at m s n) r) → (c ≡ n) ⊎ (c < n) → IsAsGood dir x (reward_of (choice_at m s c) r)
  at_by s n c h k (inl e) = subst (λ (i : ℕ). IsAsGood dir x (reward_of (choice_at m s i) r)) (sym e) k
  at_by s n c h k (inr l) = good_trans dir x old (reward_of (choice_at m s c) r) as_old (h c l)

  pub at_next : (s n : ℕ) → IsAsGoodAt dir m r old s n → IsAsGood dir x (reward_of (choice_at m s n) r) → IsAsGoodAt dir m r x s (n + 1)
  at_next s n h k = λ c l. at_by s n c h k (last_or n c (omega (arith, l)))

  below_by : (n s c : ℕ) → IsAsGoodBelow dir m r old n → IsAsGoodAt dir m r x n (length (choices_at m n)) → c < length (choices_at m s) → (s ≡ n) ⊎ (s < n)
      → IsAsGood dir x (reward_of (choice_at m s c) r)
  below_by n s c h k i (inl e) = subst (λ (j : ℕ). c < length (choices_at m j) → IsAsGood dir x (reward_of (choice_at m j c) r)) (sym e) (k c) i
  below_by n s c h k i (inr l) = good_trans dir x old (reward_of (choice_at m s c) r) as_old (h s c l i)

  pub below_next : (n : ℕ) → IsAsGoodBelow dir m r old n → IsAsGoodAt dir m r x n (length (choices_at m n)) → IsAsGoodBelow dir m r x (n + 1)
  below_next n h k = λ s c l i. below_by n s c h k i (last_or n s (omega (arith, l)))

-- ---- which number is kept

pub one-next : (m : Mdp) (r s n : ℕ) (first old x : ℚ) → s < states_of m → n < length (choices_at m s) → (old ≡ first) ⊎ IsEarned m r old
    → (x ≡ old) ⊎ (x ≡ reward_of (choice_at m s n) r) → (x ≡ first) ⊎ IsEarned m r x
one-next m r s n first old x l i (inl e) (inl f) = inl (f ∙ e)
one-next m r s n first old x l i (inr e) (inl f) = inr (subst (IsEarned m r) (sym f) e)
one-next m r s n first old x l i h (inr f) = inr (record { state = s; choice = n; state_in = l; choice_in = i; earns = f })

pub one-after : (m : Mdp) (r : ℕ) (first old x : ℚ) → (old ≡ first) ⊎ IsEarned m r old → (x ≡ old) ⊎ IsEarned m r x → (x ≡ first) ⊎ IsEarned m r x
one-after m r first old x h (inr f) = inr f
one-after m r first old x (inl e) (inl f) = inl (f ∙ e)
one-after m r first old x (inr e) (inl f) = inr (subst (IsEarned m r) (sym f) e)

-- the first number is a reward
pub one-earned : (m : Mdp) (r : ℕ) (first x : ℚ) → IsEarned m r first → (x ≡ first) ⊎ IsEarned m r x → IsEarned m r x
one-earned m r first x h (inl e) = subst (IsEarned m r) (sym e) h
one-earned m r first x h (inr f) = f
