-- Exact values lie between the bounds of the same query.
use Rattle.std.proofs.Common.{ℕ, Option, Some, None}
use Rattle.std.specs.Option.{IfSome}
use Rattle.mdp_math.specs.Rational.{ℚ, ◌≤ℚ◌}
use Rattle.mdp_spec.specs.{Mdp.{value_at}, Tree.{Tree, unfolded}, Bounds.{reward_at}}
use Rattle.mdp_spec.proofs.Keeping.{unfolded_is_strategy}
use Rattle.mdp_rows.specs.declared.dir.Dir.TheVariants.{Max, Min}
use Rattle.mdp_discount_rules.specs.Disc.{disc}
use Rattle.mdp_discount_rules.proofs.Discount.{le_limit}
use Rattle.mdp_discount_rules.specs.BoundsLaws.{ExactIsBetween}

-- what holds of a value at each depth, and what follows of it
if_some_by : (o : Option ℚ) (P : ℕ → ℚ → Type 0) (Q : ℚ → Type 0) → ((n : ℕ) → IfSome o (λ x. P n x)) → ((x : ℚ) → ((n : ℕ) → P n x) → Q x) → IfSome o (λ x. Q x)
if_some_by None P Q h means = tt
if_some_by (Some x) P Q h means = means x h

pub exact_is_between : ExactIsBetween
exact_is_between Max m r f v lower upper k l policy other s known factor a b h =
    let tree : ℕ → Tree = λ n. unfolded m other n s in
    let own : ℕ → Tree = λ n. unfolded m policy n s in (
      if_some_by (reward_at lower s) _ (λ x. x ≤ℚ value_at v s) (λ n. b.reached n s h)
          (λ x near. le_limit f x (value_at v s) l k factor (λ n. (disc m r f 1 n (tree n) s, near n, a.trees n 1 (tree n) s h (unfolded_is_strategy m other n s known b.takes h)))),
      if_some_by (reward_at upper s) _ (λ y. value_at v s ≤ℚ y) (λ n. b.above n 1 (own n) s h (unfolded_is_strategy m policy n s known a.takes h))
          (λ y near. le_limit f (value_at v s) y k l factor (λ n. (disc m r f 1 n (own n) s, a.policy_above n s h, near n))),
    )
exact_is_between Min m r f v lower upper k l policy other s known factor a b h =
    let tree : ℕ → Tree = λ n. unfolded m other n s in
    let own : ℕ → Tree = λ n. unfolded m policy n s in (
      if_some_by (reward_at lower s) _ (λ x. x ≤ℚ value_at v s) (λ n. b.below n 1 (own n) s h (unfolded_is_strategy m policy n s known a.takes h))
          (λ x near. le_limit f x (value_at v s) l k factor (λ n. (disc m r f 1 n (own n) s, near n, a.policy_below n s h))),
      if_some_by (reward_at upper s) _ (λ y. value_at v s ≤ℚ y) (λ n. b.reached n s h)
          (λ y near. le_limit f (value_at v s) y k l factor (λ n. (disc m r f 1 n (tree n) s, a.trees n 1 (tree n) s h (unfolded_is_strategy m other n s known b.takes h), near n))),
    )
