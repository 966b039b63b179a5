-- The greatest and the least rewards of a policy's chain until a goal are what the policy earns on the model.
use Rattle.std.proofs.Common.{◌≡◌, ℕ, zero, suc, ◌+◌, ◌*◌, ◌-◌, ◌≤◌, ◌<◌, ⊎_elim, inl, inr, Bool, List, [], ◌∷◌, Option, Some, None, refl, subst, arith, pos}
use Rattle.mdp_math.specs.Rational.{ℚ, ◌+ℚ◌, ◌≤ℚ◌}
use Rattle.mdp_math.proofs.{Ring.{◌⊕◌, lit}, Linear.{linear, known}, Laws.{den-pos}, Order.{1ℚ, ≤ℚ_refl, ≤ℚ_trans, le-ratio}, Whole.{ratio-pos}, Powers.{unit_fraction-le}}
use Rattle.mdp_spec.specs.{Mdp.{Mdp, states_of}, Row.{IsMdp}, Tree.{IsStrategy, IsPolicy, unfolded}, Hit.{hit}, Pay.{pay, Enters}}
use Rattle.mdp_spec.specs.Bounds.{part, reward_at, greatest_finite, infinite, MaxInfinite, MinInfinite}
use Rattle.mdp_spec.specs.Between.{MaxAtLeast, MaxLower, MaxUpper, MinAtLeast, MinLower, MinUpper, RewardMinBetween}
use Rattle.mdp_spec.proofs.{Keeping.{unfolded_is_strategy}, Values.{none_of_infinite, greatest_finite-nonneg}, Pays.{near_enough}}
use Rattle.mdp_spec.proofs.{Reward.{reward_max_between, reward_min_between}, Trapped.{misses_of_enters}}
use Rattle.mdp_subsystem_rules.proofs.Bounded.{one_more_step}
use Rattle.mdp_policy.specs.{Chain.{chain_of}, ChainLaws.{RewardIsOwn, RewardBoundsAreOwn}, Own.{OwnLower, OwnUpper}}
use Rattle.mdp_policy.proofs.{Chains.{chain_is_mdp}, Trees.{pays_kept}, Owned.{inside, tree_of, hit_same}}

-- a goal is not both missed with a chance of 1/q and met up to less
clash : (h : ℚ) (q : ℕ) → 1 ≤ q → h +ℚ part q ≤ℚ 1ℚ → 1ℚ ≤ℚ h +ℚ part (suc q) → ⊥
clash h q hq missed met =
    let le : part q ≤ℚ part (suc q) = linear 3 (λ h a b. a) (λ h a b. b) (λ h a b. known (h ⊕ a) (lit (pos 1)) ∷ known (lit (pos 1)) (h ⊕ b) ∷ []) refl h (part q) (part (suc q)) missed met in
    let l : 1 * suc q ≤ 1 * q = le-ratio 1 1 q (suc q) hq (omega arith) le in omega (arith, l)

-- a policy that shows lower values of the least rewards and arrives never enters a state whose lower value is infinite
never_enters : (m : Mdp) (r : ℕ) (goals : List Bool) (policy : List ℕ) (lower upper : List (Option ℚ)) (n s : ℕ) → IsMdp m → RewardMinBetween m r goals policy lower upper → s < states_of m
    → ((k : ℕ) → 1 ≤ k → (n : ℕ) × (1ℚ ≤ℚ hit m goals 1 n (unfolded m policy n s) s +ℚ part k)) → Enters m goals (infinite lower) n (unfolded m policy n s) s → ⊥
never_enters m r goals policy lower upper n s known_ rules h arrives enters =
    let missed =
    misses_of_enters m goals policy known_ rules.takes (infinite lower)
    (λ t l marked.
    let value : MinLower m r goals policy lower t None = subst (λ (o : Option ℚ). MinLower m r goals policy lower t o) (none_of_infinite lower t marked) (rules.at_least t l) in
    let q = MinInfinite.misses value in
    (part q.0, ratio-pos 1 q.0 (omega arith) q.1, λ d. q.2 d 1 (unfolded m policy d t) (unfolded_is_strategy m policy d t known_ rules.takes l)))
    n s h enters
    in
    let met = arrives (suc (ℚ.den missed.0)) (omega arith) in
    clash (hit m goals 1 met.0 (unfolded m policy met.0 s) s) (ℚ.den missed.0) (den-pos missed.0)
    (linear 3 (λ h a x. h ⊕ a) (λ h a x. lit (pos 1)) (λ h a x. known (h ⊕ x) (lit (pos 1)) ∷ known a x ∷ []) refl (hit m goals 1 met.0 (unfolded m policy met.0 s) s)
    (part (ℚ.den missed.0)) missed.0 (missed.2 met.0) (unit_fraction-le missed.0 missed.1))
    met.1

-- a policy hits no less with more steps
module _ (m : Mdp) (goals : List Bool) (policy : List ℕ) (known_ : IsMdp m) (takes : IsPolicy m policy) where
  same_steps : (n k s : ℕ) → n ≡ k → hit m goals 1 n (unfolded m policy n s) s ≤ℚ hit m goals 1 k (unfolded m policy k s) s
  same_steps n k s e = subst (λ (j : ℕ). hit m goals 1 n (unfolded m policy n s) s ≤ℚ hit m goals 1 j (unfolded m policy j s) s) e (≤ℚ_refl _)

  hits_grow_by : (n more d s : ℕ) → more + n ≡ d → s < states_of m → hit m goals 1 n (unfolded m policy n s) s ≤ℚ hit m goals 1 d (unfolded m policy d s) s
  hits_grow_by n zero d s e h = same_steps n d s (omega (arith, e))
  hits_grow_by n (suc more) d s e h =
      ≤ℚ_trans _ _ _ (hits_grow_by n more (more + n) s refl h)
      (≤ℚ_trans _ _ _ (one_more_step m goals policy (more + n) s known_ takes h) (same_steps (suc (more + n)) d s (omega (arith, e))))

  hits_grow : (n d s : ℕ) → s < states_of m → n ≤ d → hit m goals 1 n (unfolded m policy n s) s ≤ℚ hit m goals 1 d (unfolded m policy d s) s
  hits_grow n d s h l = hits_grow_by n (d - n) d s (omega (arith, l)) h

module _ (m : Mdp) (policy other : List ℕ) (known_ : IsMdp m) (is : IsPolicy m policy) (r : ℕ) (goals : List Bool) (takes : IsPolicy (chain_of m policy) other) where
  -- the policy's trees on the chain and on the model
  abbrev there : ℕ → ℕ → ℚ
  there n s = pay (chain_of m policy) r goals 1 n (unfolded (chain_of m policy) other n s) s

  abbrev here : ℕ → ℕ → ℚ
  here n s = pay m r goals 1 n (unfolded m policy n s) s

  abbrev met_there : ℕ → ℕ → ℚ
  met_there n s = hit (chain_of m policy) goals 1 n (unfolded (chain_of m policy) other n s) s

  pay_same : (n s : ℕ) → s < states_of m → there n s ≡ here n s
  pay_same n s h = pays_kept r goals m policy known_ is 1 n (unfolded (chain_of m policy) other n s) s h (tree_of m policy other known_ is n s takes h)

  met_same : (n s : ℕ) → s < states_of m → met_there n s ≡ hit m goals 1 n (unfolded m policy n s) s
  met_same n s h = hit_same m policy other known_ is goals n s takes h

  tree : (n s : ℕ) → s < states_of m → IsStrategy (chain_of m policy) 1 n (unfolded (chain_of m policy) other n s) s
  tree n s h = tree_of m policy other known_ is n s takes h

  of_max_lower : (s : ℕ) → s < states_of m → (o : Option ℚ) → MaxLower (chain_of m policy) r goals other s o → OwnLower m r goals policy s o
  of_max_lower s h (Some x) c = record {
    arrives = λ k hk.
        let a = MaxAtLeast.arrives c k hk in
        (a.0, subst (λ (w : ℚ). 1ℚ ≤ℚ w +ℚ part k) (met_same a.0 s h) (a.1 a.0 1 (unfolded (chain_of m policy) other a.0 s) (omega arith) (tree a.0 s h)));
    close = λ k hk. let a = MaxAtLeast.close c k hk in (a.0, λ d l. subst (λ (w : ℚ). x ≤ℚ w +ℚ part k) (pay_same d s h) (a.1 d l));
  }
  of_max_lower s h None c = let q = MaxInfinite.misses c in (q.0, q.1, λ n. subst (λ (w : ℚ). w +ℚ part q.0 ≤ℚ 1ℚ) (met_same n s h) (q.2 n))

  of_max_upper : (s : ℕ) → s < states_of m → (o : Option ℚ) → MaxUpper (chain_of m policy) r goals other s o → OwnUpper m r goals policy s o
  of_max_upper s h (Some y) c = λ n. subst (λ (w : ℚ). w ≤ℚ y) (pay_same n s h) (c n 1 (unfolded (chain_of m policy) other n s) (tree n s h))
  of_max_upper s h None c = tt

  of_min_upper : (s : ℕ) → s < states_of m → (o : Option ℚ) → MinUpper (chain_of m policy) r goals other s o → OwnUpper m r goals policy s o
  of_min_upper s h (Some y) c = λ n. subst (λ (w : ℚ). w ≤ℚ y) (pay_same n s h) (c n)
  of_min_upper s h None c = tt

  module _ (lower upper : List (Option ℚ)) (rules : RewardMinBetween (chain_of m policy) r goals other lower upper) where
    comes_close : (s : ℕ) (x : ℚ) → s < states_of m → MinAtLeast (chain_of m policy) r goals other lower s x → (k : ℕ) → 1 ≤ k → (n : ℕ) × ((d : ℕ) → n ≤ d → x ≤ℚ here d s +ℚ part k)
    comes_close s x h c k hk =
        let enough = near_enough (greatest_finite lower) k (greatest_finite-nonneg lower) hk in
        let met = MinAtLeast.arrives c enough.0 enough.1 in
        let is_mdp = chain_is_mdp m policy is known_ in
        let within = inside m policy other known_ is s h in (
          met.0,
          λ d l.
              ⊎_elim (λ enters. absurd (never_enters (chain_of m policy) r goals other lower upper d s is_mdp rules within (MinAtLeast.arrives c) enters))
              (λ covered. subst (λ (w : ℚ). x ≤ℚ w +ℚ part k) (pay_same d s h) (enough.2 x (there d s) (met_there d s) covered
              (linear 3 (λ a b q. lit (pos 1)) (λ a b q. b ⊕ q) (λ a b q. known (lit (pos 1)) (a ⊕ q) ∷ known a b ∷ []) refl (met_there met.0 s) (met_there d s) (part enough.0) met.1
              (hits_grow (chain_of m policy) goals other is_mdp takes met.0 d s within l))))
              (MinAtLeast.covered c d 1 (unfolded (chain_of m policy) other d s) (tree d s h)),
        )

    of_min_lower : (s : ℕ) → s < states_of m → (o : Option ℚ) → MinLower (chain_of m policy) r goals other lower s o → OwnLower m r goals policy s o
    of_min_lower s h (Some x) c = record {
      arrives = λ k hk. let a = MinAtLeast.arrives c k hk in (a.0, subst (λ (w : ℚ). 1ℚ ≤ℚ w +ℚ part k) (met_same a.0 s h) a.1);
      close = comes_close s x h c;
    }
    of_min_lower s h None c =
        let q = MinInfinite.misses c in
        (q.0, q.1, λ n. subst (λ (w : ℚ). w +ℚ part q.0 ≤ℚ 1ℚ) (met_same n s h) (q.2 n 1 (unfolded (chain_of m policy) other n s) (tree n s h)))

pub reward_bounds_are_own : RewardBoundsAreOwn
reward_bounds_are_own m policy other r goals lower upper known_ is (inl w) =
    λ s h.
    let i = inside m policy other known_ is s h in (
      of_max_lower m policy other known_ is r goals w.takes s h (reward_at lower s) (w.at_least s i),
      of_max_upper m policy other known_ is r goals w.takes s h (reward_at upper s) (w.at_most s i),
    )
reward_bounds_are_own m policy other r goals lower upper known_ is (inr w) =
    λ s h.
    let i = inside m policy other known_ is s h in (
      of_min_lower m policy other known_ is r goals w.takes lower upper w s h (reward_at lower s) (w.at_least s i),
      of_min_upper m policy other known_ is r goals w.takes s h (reward_at upper s) (w.at_most s i),
    )

pub reward_is_own : RewardIsOwn
reward_is_own m policy other r goals v known_ is (inl w) = reward_bounds_are_own m policy other r goals v v known_ is (inl (reward_max_between (chain_of m policy) r goals v other w))
reward_is_own m policy other r goals v known_ is (inr w) = reward_bounds_are_own m policy other r goals v v known_ is (inr (reward_min_between (chain_of m policy) r goals v other w))
