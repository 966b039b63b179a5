-- What is computed of a policy's chain, for the greatest or for the least, is the policy's own value on the model.
use Rattle.std.proofs.Common.{◌≡◌, ℕ, ◌<◌, inl, inr, Bool, List, sym, subst, ◌∙◌, arith}
use Rattle.mdp_math.specs.{Rational.{ℚ, ◌+ℚ◌, ◌*ℚ◌, ◌≤ℚ◌}, Power.{pow_ℚ}}
use Rattle.mdp_spec.specs.{Mdp.{Mdp, states_of, value_at}, Row.{IsMdp}, Tree.{IsStrategy, IsPolicy, unfolded}, Hit.{hit}, Pay.{total}, Bounds.{part, whole}}
use Rattle.mdp_spec.specs.Between.{ReachMaxBetween, ReachMinBetween}
use Rattle.mdp_spec.proofs.{Keeping.{unfolded_is_strategy}, Mean.{mean_max_between, mean_min_between}}
use Rattle.mdp_spec.specs.Until.{until}
use Rattle.mdp_horizon.specs.Table.{unfolded_steps, IsTable}
use Rattle.mdp_horizon.proofs.Backward.{unfolded_steps_fits}
use Rattle.mdp_discount_rules.specs.Disc.{disc}
use Rattle.mdp_policy.specs.{Chain.{chain_of}, ChainLaws.{ReachIsOwn, ReachBoundsAreOwn, MeanIsOwn, MeanBoundsAreOwn, BoundedIsOwn, DiscountIsOwn}}
use Rattle.mdp_policy.specs.Own.{OwnReach, OwnMean, OwnBounded}
use Rattle.mdp_policy.proofs.{Chains.{chain-states, chain_is_mdp}, Trees.{hits_kept, totals_kept, untils_kept, discounts_kept}}

module _ (m : Mdp) (policy other : List ℕ) (known : IsMdp m) (is : IsPolicy m policy) where
  pub inside : (s : ℕ) → s < states_of m → s < states_of (chain_of m policy)
  inside s h = subst (λ (n : ℕ). s < n) (sym (chain-states m policy is)) h

  pub tree_of : (n s : ℕ) → IsPolicy (chain_of m policy) other → s < states_of m → IsStrategy (chain_of m policy) 1 n (unfolded (chain_of m policy) other n s) s
  tree_of n s takes h = unfolded_is_strategy (chain_of m policy) other n s (chain_is_mdp m policy is known) takes (inside s h)

  -- ---- reaching a goal

  pub hit_same : (goals : List Bool) (n s : ℕ) → IsPolicy (chain_of m policy) other → s < states_of m
      → hit (chain_of m policy) goals 1 n (unfolded (chain_of m policy) other n s) s ≡ hit m goals 1 n (unfolded m policy n s) s
  hit_same goals n s takes h = hits_kept goals m policy known is 1 n (unfolded (chain_of m policy) other n s) s h (tree_of n s takes h)

  of_max : (goals : List Bool) (lower upper : List ℚ) → ReachMaxBetween (chain_of m policy) goals lower upper other → OwnReach m goals policy lower upper
  of_max goals lower upper r = record {
    below = λ n s h. subst (λ (x : ℚ). x ≤ℚ value_at upper s) (hit_same goals n s r.takes h)
        (r.above.above n 1 (unfolded (chain_of m policy) other n s) s (inside s h) (tree_of n s r.takes h));
    close = λ s k h hk. let c = r.close s k (inside s h) hk in (c.0, subst (λ (x : ℚ). value_at lower s ≤ℚ x +ℚ part k) (hit_same goals c.0 s r.takes h) c.1);
  }

  of_min : (goals : List Bool) (lower upper : List ℚ) → ReachMinBetween (chain_of m policy) goals lower upper other → OwnReach m goals policy lower upper
  of_min goals lower upper r = record {
    below = λ n s h. subst (λ (x : ℚ). x ≤ℚ value_at upper s) (hit_same goals n s r.takes h) (r.below n s (inside s h));
    close = λ s k h hk.
        let c = r.close s k (inside s h) hk in (
          c.0,
          subst (λ (x : ℚ). value_at lower s ≤ℚ x +ℚ part k) (hit_same goals c.0 s r.takes h)
              (c.1 c.0 1 (unfolded (chain_of m policy) other c.0 s) (omega arith) (tree_of c.0 s r.takes h)),
        );
  }

  -- ---- the mean payoff

  total_same : (r n s : ℕ) → IsPolicy (chain_of m policy) other → s < states_of m
      → total (chain_of m policy) r 1 n (unfolded (chain_of m policy) other n s) s ≡ total m r 1 n (unfolded m policy n s) s
  total_same r n s takes h = totals_kept r m policy known is 1 n (unfolded (chain_of m policy) other n s) s h (tree_of n s takes h)

  mean_of : (r : ℕ) (lower upper : List ℚ) (spread : ℚ) → IsPolicy (chain_of m policy) other
      → ((n s : ℕ) → s < states_of m → whole n *ℚ value_at lower s ≤ℚ total (chain_of m policy) r 1 n (unfolded (chain_of m policy) other n s) s +ℚ spread)
      → ((n s : ℕ) → s < states_of m → total (chain_of m policy) r 1 n (unfolded (chain_of m policy) other n s) s ≤ℚ whole n *ℚ value_at upper s +ℚ spread)
      → OwnMean m r policy lower upper spread
  mean_of r lower upper spread takes above below = record {
    above = λ n s h. subst (λ (x : ℚ). whole n *ℚ value_at lower s ≤ℚ x +ℚ spread) (total_same r n s takes h) (above n s h);
    below = λ n s h. subst (λ (x : ℚ). x ≤ℚ whole n *ℚ value_at upper s +ℚ spread) (total_same r n s takes h) (below n s h);
  }

pub reach_is_own : ReachIsOwn
reach_is_own m policy other goals z known is (inl r) = of_max m policy other known is goals z z (record { takes = r.takes; above = r.above; close = r.close })
reach_is_own m policy other goals z known is (inr r) = of_min m policy other known is goals z z (record { takes = r.takes; below = r.below; close = r.close })

pub reach_bounds_are_own : ReachBoundsAreOwn
reach_bounds_are_own m policy other goals lower upper known is (inl r) = of_max m policy other known is goals lower upper r
reach_bounds_are_own m policy other goals lower upper known is (inr r) = of_min m policy other known is goals lower upper r

pub mean_bounds_are_own : MeanBoundsAreOwn
mean_bounds_are_own m policy other r lower upper spread known is (inl w) =
    mean_of m policy other known is r lower upper spread w.takes (λ n s h. w.reached n s (inside m policy other known is s h))
    (λ n s h. w.above n 1 (unfolded (chain_of m policy) other n s) s (inside m policy other known is s h) (tree_of m policy other known is n s w.takes h))
mean_bounds_are_own m policy other r lower upper spread known is (inr w) =
    mean_of m policy other known is r lower upper spread w.takes
    (λ n s h. w.below n 1 (unfolded (chain_of m policy) other n s) s (inside m policy other known is s h) (tree_of m policy other known is n s w.takes h))
    (λ n s h. w.reached n s (inside m policy other known is s h))

pub mean_is_own : MeanIsOwn
mean_is_own m policy other r g spread known is (inl w) = mean_bounds_are_own m policy other r g g spread known is (inl (mean_max_between (chain_of m policy) r g spread other w))
mean_is_own m policy other r g spread known is (inr w) = mean_bounds_are_own m policy other r g g spread known is (inr (mean_min_between (chain_of m policy) r g spread other w))

-- ---- bounded until

module _ (m : Mdp) (policy : List ℕ) (stay goals : List Bool) (n : ℕ) (z : List ℚ) (table : List (List ℕ)) (known : IsMdp m) (is : IsPolicy m policy) where
  bounded_of : IsTable (chain_of m policy) n table
      → ((s : ℕ) → s < states_of (chain_of m policy) → until (chain_of m policy) stay goals 1 n (unfolded_steps (chain_of m policy) table s) s ≡ value_at z s) → OwnBounded m stay goals policy n z
  bounded_of takes reached s h =
      let i = inside m policy policy known is s h in
      let tree : IsStrategy (chain_of m policy) 1 n (unfolded_steps (chain_of m policy) table s) s =
      record { mixes = omega arith; fits = unfolded_steps_fits (chain_of m policy) n table s (chain_is_mdp m policy is known) takes.one_each takes.policies i }
      in
      sym (untils_kept stay goals m policy known is 1 n (unfolded_steps (chain_of m policy) table s) s h tree) ∙ reached s i

pub bounded_is_own : BoundedIsOwn
bounded_is_own m policy stay goals n z table known is (inl w) = bounded_of m policy stay goals n z table known is w.takes w.reached
bounded_is_own m policy stay goals n z table known is (inr w) = bounded_of m policy stay goals n z table known is w.takes w.reached

-- ---- the discounted reward

pub discount_is_own : DiscountIsOwn
discount_is_own dir m policy other r f v remainder known is factor w =
    let same : (n s : ℕ) → s < states_of m → disc (chain_of m policy) r f 1 n (unfolded (chain_of m policy) other n s) s ≡ disc m r f 1 n (unfolded m policy n s) s =
    λ n s h. discounts_kept r f factor m policy known is 1 n (unfolded (chain_of m policy) other n s) s h (tree_of m policy other known is n s w.takes h)
    in
    record {
      above = λ n s h. subst (λ (x : ℚ). value_at v s ≤ℚ x +ℚ pow_ℚ f n *ℚ remainder) (same n s h) (w.policy_above n s (inside m policy other known is s h));
      below = λ n s h. subst (λ (x : ℚ). x ≤ℚ value_at v s +ℚ pow_ℚ f n *ℚ remainder) (same n s h) (w.policy_below n s (inside m policy other known is s h));
    }
