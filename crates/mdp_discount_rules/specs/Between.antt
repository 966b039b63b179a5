-- What a lower and an upper value for each state and a policy mean of the discounted reward, over every policy with history and rational mixing: what
-- is left after n steps is at most f to the n times the remainder. A value that is missing claims nothing.
use Rattle.std.specs.Prelude.{◌≡◌, ℕ, ◌<◌, List, length, Option, IfSome}
use Rattle.mdp_math.specs.{Rational.{ℚ, ◌+ℚ◌, ◌*ℚ◌, ◌≤ℚ◌}, Power.{pow_ℚ}}
use Rattle.mdp_spec.specs.{Mdp.{Mdp, states_of}, Bounds.{reward_at}, Tree.{Tree, IsStrategy, IsPolicy, unfolded}}
use Rattle.mdp_rows.specs.{declared.dir.Dir.{Dir}, declared.dir.Dir.TheVariants.{Max, Min}}
use Rattle.mdp_discount_rules.specs.Disc.{disc}

-- the greatest discounted reward: no tree passes the upper values by more than what is left, and the policy falls short of the lower ones by no more
pub record DiscountMaxBetween (m : Mdp) (r : ℕ) (f : ℚ) (lower upper : List (Option ℚ)) (remainder : ℚ) (policy : List ℕ) : Type 0 where
  pub takes : IsPolicy m policy
  pub named : r < length m.names
  pub one_each : length lower ≡ states_of m
  pub one_above : length upper ≡ states_of m
  pub above :
      (n u : ℕ) (t : Tree) (s : ℕ) → s < states_of m → IsStrategy m u n t s
      → IfSome (reward_at upper s) (λ y. disc m r f u n t s ≤ℚ y +ℚ pow_ℚ f n *ℚ remainder)
  pub reached : (n s : ℕ) → s < states_of m → IfSome (reward_at lower s) (λ x. x ≤ℚ disc m r f 1 n (unfolded m policy n s) s +ℚ pow_ℚ f n *ℚ remainder)

-- the least one: no tree falls short of the lower values by more than what is left, and the policy passes the upper ones by no more
pub record DiscountMinBetween (m : Mdp) (r : ℕ) (f : ℚ) (lower upper : List (Option ℚ)) (remainder : ℚ) (policy : List ℕ) : Type 0 where
  pub takes : IsPolicy m policy
  pub named : r < length m.names
  pub one_each : length lower ≡ states_of m
  pub one_above : length upper ≡ states_of m
  pub below :
      (n u : ℕ) (t : Tree) (s : ℕ) → s < states_of m → IsStrategy m u n t s
      → IfSome (reward_at lower s) (λ x. x ≤ℚ disc m r f u n t s +ℚ pow_ℚ f n *ℚ remainder)
  pub reached : (n s : ℕ) → s < states_of m → IfSome (reward_at upper s) (λ y. disc m r f 1 n (unfolded m policy n s) s ≤ℚ y +ℚ pow_ℚ f n *ℚ remainder)

abbrev pub DiscountBetween : Dir → Mdp → ℕ → ℚ → List (Option ℚ) → List (Option ℚ) → ℚ → List ℕ → Type 0
DiscountBetween Max m r f lower upper remainder policy = DiscountMaxBetween m r f lower upper remainder policy
DiscountBetween Min m r f lower upper remainder policy = DiscountMinBetween m r f lower upper remainder policy
