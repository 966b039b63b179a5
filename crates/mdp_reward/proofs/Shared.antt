-- What the path of either direction finds, in terms of the certificate: its values are at least 0, and at a transient state they are what the policy's choice
-- earns, and no choice that a policy may take is better.
use Rattle.std.proofs.Common.{◌≡◌, ℕ, ◌<◌, Bool, true, false, not, ◌&&◌, List, length, Option, Some, sym, ◌∙◌, ap, subst}
use Rattle.std.specs.Prelude.{slice_index}
use Rattle.mdp_math.specs.Rational.{ℚ, ◌≤ℚ◌}
use Rattle.mdp_math.proofs.{Booleans.{and-false}, Order.{0ℚ}}
use Rattle.mdp_spec.specs.{Mdp.{Mdp, states_of, row_at, choices_at, value_at}, Row.{IsMdp}, Tree.{is_marked}, Bounds.{finite_part}}
use Rattle.mdp_spec.specs.RewardRules.{backup, IsTransient, AreRewards}
use Rattle.mdp_spec.specs.Tree as tree
use Rattle.mdp_rows.specs.{Negative.{has_negative}, declared.dir.Dir.{Dir}, Better.{IsAsGood}}
use Rattle.mdp_policy_iteration.specs.Laws.{IsBestFrom}
use Rattle.mdp_reward.specs.{Problem.{may_take, is_transient, reward_problem}, Query.{rewards_of}}
use Rattle.mdp_reward.proofs.{Nodes.{reward-count}, Values.{given-value, transient-value, nonneg}, Kept.{no-better}}
use Rattle.mdp_reward.proofs.Certificate.{reward-finite, transient-state, some-value, finite-part}

-- goals and infinite states aren't transient
pub not-goal : (goals finite : List Bool) (s : ℕ) → is_marked goals s ≡ true → is_transient goals finite s ≡ false
not-goal goals finite s g = ap (λ (b : Bool). not b && is_marked finite s) g

pub not-infinite : (goals finite : List Bool) (s : ℕ) → is_marked finite s ≡ false → is_transient goals finite s ≡ false
not-infinite goals finite s e = ap (λ (b : Bool). not (is_marked goals s) && b) e ∙ and-false (not (is_marked goals s))

module _ (dir : Dir) (m : Mdp) (r : ℕ) (goals finite : List Bool) (start policy : List ℕ) (x : List ℚ) (model : IsMdp m) (none : has_negative m r ≡ false) (taking : tree.IsPolicy m start)
    (found : IsBestFrom (reward_problem dir m r goals finite) start policy x) (goal_finite : (s : ℕ) → s < states_of m → is_marked goals s ≡ true → is_marked finite s ≡ true) where
  abbrev v : List (Option ℚ)
  v = rewards_of m finite x

  outside_zero : (s : ℕ) → s < states_of m → is_transient goals finite s ≡ false → value_at x s ≡ 0ℚ
  outside_zero = given-value dir m r goals finite model policy found.best.is found.best.leaves x found.best.values

  pub numbers : finite_part v ≡ x
  numbers = finite-part m goals finite x (found.best.values.len ∙ reward-count dir m r goals finite) (λ s l e. outside_zero s l (not-infinite goals finite s e))

  -- ---- the values

  pub are-rewards : (ranks : List ℕ) → ((s : ℕ) → s < states_of m → is_marked goals s ≡ true → slice_index ranks s ≡ 0) → AreRewards m goals v ranks
  are-rewards ranks zero = record {
    at_least_zero = λ s y l e.
        subst (λ (w : ℚ). 0ℚ ≤ℚ w) (sym (some-value m goals finite x s y l e))
        (nonneg dir m r goals finite model policy found.best.is found.best.leaves x found.best.values none s);
    at_goal = λ s l g. (
      reward-finite m goals finite x s l (goal_finite s l g) ∙ ap (λ (w : ℚ). let o : Option ℚ = Some w in o) (outside_zero s l (not-goal goals finite s g)),
      zero s l g,
    );
  }

  -- ---- a transient state

  pub own-value : (s : ℕ) → IsTransient m goals v s → value_at (finite_part v) s ≡ backup m r s (slice_index policy s) (finite_part v)
  own-value s h =
      subst (λ (z : List ℚ). value_at z s ≡ backup m r s (slice_index policy s) z) (sym numbers)
      (transient-value dir m r goals finite model policy found.best.is found.best.leaves x found.best.values s h.0 (transient-state m goals finite x s h))

  pub none-better : (s c : ℕ) → IsTransient m goals v s → c < length (choices_at m s) → may_take dir finite (row_at m s c) ≡ true
      → IsAsGood dir (value_at (finite_part v) s) (backup m r s c (finite_part v))
  none-better s c h i may =
      subst (λ (z : List ℚ). IsAsGood dir (value_at z s) (backup m r s c z)) (sym numbers)
      (no-better dir m r goals finite start policy x taking found s c h.0 (transient-state m goals finite x s h) i may)
