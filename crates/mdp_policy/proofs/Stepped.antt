-- What is computed of a policy's chain within a number of steps, and bounds of it and of the discounted reward, are the policy's own on the model.
use Rattle.std.proofs.Common.{◌≡◌, ℕ, ◌<◌, inl, inr, List, Option, Some, None, IfSome, sym, subst, ◌∙◌, arith}
use Rattle.mdp_math.specs.{Rational.{ℚ, ◌+ℚ◌, ◌*ℚ◌, ◌≤ℚ◌}, Power.{pow_ℚ}}
use Rattle.mdp_spec.specs.{Mdp.{Mdp, states_of}, Row.{IsMdp}, Tree.{IsStrategy, IsPolicy, unfolded}, Pay.{total}, Bounds.{reward_at}}
use Rattle.mdp_rows.specs.declared.dir.Dir.TheVariants.{Max, Min}
use Rattle.mdp_horizon.specs.{Table.{unfolded_steps, IsTable}, Between.{Claimed}, Objective.{Objective, value_of}, Objective.Objective.{until, total as total_in}}
use Rattle.mdp_horizon.proofs.Backward.{unfolded_steps_fits}
use Rattle.mdp_discount_rules.specs.{Disc.{disc}, Rules.{IsFactor}}
use Rattle.mdp_policy.specs.{Chain.{chain_of}, ChainLaws.{TotalIsOwn, StepBoundsAreOwn, DiscountBoundsAreOwn}, Own.{IsOwn, OwnWithin, OwnDiscountBetween}}
use Rattle.mdp_policy.proofs.{Chains.{chain_is_mdp}, Trees.{totals_kept, untils_kept, discounts_kept}, Owned.{inside, tree_of}}

-- a claim on one number is one on another that is the same
claim_moved : (o : Option ℚ) (P : ℚ → ℚ → Type 0) (x y : ℚ) → x ≡ y → Claimed o (λ v. P v x) → Claimed o (λ v. P v y)
claim_moved None P x y e c = c
claim_moved (Some v) P x y e c = subst (λ (w : ℚ). P v w) e c

-- ---- within a number of steps

module _ (m : Mdp) (policy : List ℕ) (known : IsMdp m) (is : IsPolicy m policy) (n : ℕ) (table : List (List ℕ)) (takes : IsTable (chain_of m policy) n table) where
  table_tree : (s : ℕ) → s < states_of m → IsStrategy (chain_of m policy) 1 n (unfolded_steps (chain_of m policy) table s) s
  table_tree s h =
      record { mixes = omega arith; fits = unfolded_steps_fits (chain_of m policy) n table s (chain_is_mdp m policy is known) takes.one_each takes.policies (inside m policy policy known is s h) }

  total_same : (r s : ℕ) → s < states_of m → total (chain_of m policy) r 1 n (unfolded_steps (chain_of m policy) table s) s ≡ total m r 1 n (unfolded m policy n s) s
  total_same r s h = totals_kept r m policy known is 1 n (unfolded_steps (chain_of m policy) table s) s h (table_tree s h)

values_kept : (o : Objective) (m : Mdp) (policy : List ℕ) → IsMdp m → IsPolicy m policy → IsOwn m policy (chain_of m policy) (λ k u n t s. value_of k o u n t s)
values_kept (until stay goals) m policy known is = untils_kept stay goals m policy known is
values_kept (total_in r) m policy known is = totals_kept r m policy known is

pub total_is_own : TotalIsOwn
total_is_own m policy r n z table known is (inl w) =
    λ s h. sym (total_same m policy known is n table w.takes r s h) ∙ w.reached s (inside m policy policy known is s h)
total_is_own m policy r n z table known is (inr w) =
    λ s h. sym (total_same m policy known is n table w.takes r s h) ∙ w.reached s (inside m policy policy known is s h)

module _ (m : Mdp) (policy : List ℕ) (o : Objective) (n : ℕ) (lower upper : List (Option ℚ)) (table : List (List ℕ)) (known : IsMdp m) (is : IsPolicy m policy)
    (takes : IsTable (chain_of m policy) n table) where
  -- what the table's tree comes to on the chain
  abbrev there : ℕ → ℚ
  there s = value_of (chain_of m policy) o 1 n (unfolded_steps (chain_of m policy) table s) s

  within_of : ((s : ℕ) → s < states_of (chain_of m policy) → Claimed (reward_at lower s) (λ x. x ≤ℚ there s))
      → ((s : ℕ) → s < states_of (chain_of m policy) → Claimed (reward_at upper s) (λ y. there s ≤ℚ y)) → OwnWithin m o policy n lower upper
  within_of low high s h =
      let same : there s ≡ value_of m o 1 n (unfolded m policy n s) s =
      values_kept o m policy known is 1 n (unfolded_steps (chain_of m policy) table s) s h (table_tree m policy known is n table takes s h)
      in
      let i = inside m policy policy known is s h in (
        claim_moved (reward_at lower s) (λ x w. x ≤ℚ w) (there s) (value_of m o 1 n (unfolded m policy n s) s) same (low s i),
        claim_moved (reward_at upper s) (λ y w. w ≤ℚ y) (there s) (value_of m o 1 n (unfolded m policy n s) s) same (high s i),
      )

-- the table's tree is one of all trees
module _ (k : Mdp) (n : ℕ) (table : List (List ℕ)) (known : IsMdp k) (takes : IsTable k n table) where
  own_tree : (s : ℕ) → s < states_of k → IsStrategy k 1 n (unfolded_steps k table s) s
  own_tree s h = record { mixes = omega arith; fits = unfolded_steps_fits k n table s known takes.one_each takes.policies h }

pub step_bounds_are_own : StepBoundsAreOwn
step_bounds_are_own m policy o n lower upper table known is (inl w) =
    let k = chain_is_mdp m policy is known in
    within_of m policy o n lower upper table known is w.takes w.reached
    (λ s h. w.above 1 (unfolded_steps (chain_of m policy) table s) s h (own_tree (chain_of m policy) n table k w.takes s h))
step_bounds_are_own m policy o n lower upper table known is (inr w) =
    let k = chain_is_mdp m policy is known in
    within_of m policy o n lower upper table known is w.takes
    (λ s h. w.below 1 (unfolded_steps (chain_of m policy) table s) s h (own_tree (chain_of m policy) n table k w.takes s h)) w.reached

-- ---- the discounted reward

module _ (m : Mdp) (policy other : List ℕ) (r : ℕ) (f : ℚ) (lower upper : List (Option ℚ)) (remainder : ℚ) (known : IsMdp m) (is : IsPolicy m policy) (factor : IsFactor f)
    (takes : IsPolicy (chain_of m policy) other) where
  abbrev earned_there : ℕ → ℕ → ℚ
  earned_there n s = disc (chain_of m policy) r f 1 n (unfolded (chain_of m policy) other n s) s

  earned_same : (n s : ℕ) → s < states_of m → earned_there n s ≡ disc m r f 1 n (unfolded m policy n s) s
  earned_same n s h = discounts_kept r f factor m policy known is 1 n (unfolded (chain_of m policy) other n s) s h (tree_of m policy other known is n s takes h)

  discount_of : ((n s : ℕ) → s < states_of m → Claimed (reward_at lower s) (λ x. x ≤ℚ earned_there n s +ℚ pow_ℚ f n *ℚ remainder))
      → ((n s : ℕ) → s < states_of m → Claimed (reward_at upper s) (λ y. earned_there n s ≤ℚ y +ℚ pow_ℚ f n *ℚ remainder)) → OwnDiscountBetween m r f policy lower upper remainder
  discount_of low high = record {
    above = λ n s h.
        claim_moved (reward_at lower s) (λ x w. x ≤ℚ w +ℚ pow_ℚ f n *ℚ remainder) (earned_there n s) (disc m r f 1 n (unfolded m policy n s) s) (earned_same n s h) (low n s h);
    below = λ n s h.
        claim_moved (reward_at upper s) (λ y w. w ≤ℚ y +ℚ pow_ℚ f n *ℚ remainder) (earned_there n s) (disc m r f 1 n (unfolded m policy n s) s) (earned_same n s h) (high n s h);
  }

-- two ways to say what holds of a value that is there
claimed_of : (o : Option ℚ) (P : ℚ → Type 0) → IfSome o P → Claimed o P
claimed_of None P c = c
claimed_of (Some x) P c = c

pub discount_bounds_are_own : DiscountBoundsAreOwn
discount_bounds_are_own Max m policy other r f lower upper remainder known is factor w =
    discount_of m policy other r f lower upper remainder known is factor w.takes
    (λ n s h. claimed_of (reward_at lower s) (λ x. x ≤ℚ disc (chain_of m policy) r f 1 n (unfolded (chain_of m policy) other n s) s +ℚ pow_ℚ f n *ℚ remainder)
    (w.reached n s (inside m policy other known is s h)))
    (λ n s h. claimed_of (reward_at upper s) (λ y. disc (chain_of m policy) r f 1 n (unfolded (chain_of m policy) other n s) s ≤ℚ y +ℚ pow_ℚ f n *ℚ remainder)
    (w.above n 1 (unfolded (chain_of m policy) other n s) s (inside m policy other known is s h) (tree_of m policy other known is n s w.takes h)))
discount_bounds_are_own Min m policy other r f lower upper remainder known is factor w =
    discount_of m policy other r f lower upper remainder known is factor w.takes
    (λ n s h. claimed_of (reward_at lower s) (λ x. x ≤ℚ disc (chain_of m policy) r f 1 n (unfolded (chain_of m policy) other n s) s +ℚ pow_ℚ f n *ℚ remainder)
    (w.below n 1 (unfolded (chain_of m policy) other n s) s (inside m policy other known is s h) (tree_of m policy other known is n s w.takes h)))
    (λ n s h. claimed_of (reward_at upper s) (λ y. disc (chain_of m policy) r f 1 n (unfolded (chain_of m policy) other n s) s ≤ℚ y +ℚ pow_ℚ f n *ℚ remainder)
    (w.reached n s (inside m policy other known is s h)))
