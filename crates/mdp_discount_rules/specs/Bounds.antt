-- What values of the discounted reward mean, over every policy with history and rational mixing: what is left after n steps is at most f to the n
-- times the remainder.
use Rattle.std.specs.Prelude.{◌≡◌, ℕ, ◌<◌, List, length}
use Rattle.mdp_math.specs.{Rational.{ℚ, ◌+ℚ◌, ◌*ℚ◌, ◌≤ℚ◌}, Power.{pow_ℚ}}
use Rattle.mdp_spec.specs.{Mdp.{Mdp, states_of, value_at}, Tree.{Tree, IsStrategy, IsPolicy, unfolded}}
use Rattle.mdp_rows.specs.{declared.dir.Dir.{Dir}, declared.dir.Dir.TheVariants.{Max, Min}}
use Rattle.mdp_discount_rules.specs.Disc.{disc}

-- x is better than y by at most e
abbrev pub BetterByAtMost : Dir → ℚ → ℚ → ℚ → Type 0
BetterByAtMost Max e x y = x ≤ℚ y +ℚ e
BetterByAtMost Min e x y = y ≤ℚ x +ℚ e

-- no tree is better than the values by more than what is left, and the policy differs from them by no more
pub record DiscountBound (dir : Dir) (m : Mdp) (r : ℕ) (f : ℚ) (v : List ℚ) (remainder : ℚ) (policy : List ℕ) : Type 0 where
  pub takes : IsPolicy m policy
  pub named : r < length m.names
  pub one_each : length v ≡ states_of m
  pub trees :
      (n u : ℕ) (t : Tree) (s : ℕ) → s < states_of m → IsStrategy m u n t s
      → BetterByAtMost dir (pow_ℚ f n *ℚ remainder) (disc m r f u n t s) (value_at v s)
  pub policy_above : (n s : ℕ) → s < states_of m → value_at v s ≤ℚ disc m r f 1 n (unfolded m policy n s) s +ℚ pow_ℚ f n *ℚ remainder
  pub policy_below : (n s : ℕ) → s < states_of m → disc m r f 1 n (unfolded m policy n s) s ≤ℚ value_at v s +ℚ pow_ℚ f n *ℚ remainder
