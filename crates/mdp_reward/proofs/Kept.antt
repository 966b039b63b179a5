-- At its end the path has found a policy of the model: at transient states it takes candidates, and elsewhere it has what the start has.
use Rattle.std.proofs.Common.{◌≡◌, ℕ, ◌<◌, Bool, true, false, List, length, refl, sym, ◌∙◌, ap, subst, arith, pos, if◌then◌else◌}
use Rattle.std.specs.Prelude.{slice_index}
use Rattle.mdp_math.specs.Rational.{ℚ, of_int}
use Rattle.mdp_spec.specs.{Mdp.{Mdp, states_of, row_at, choices_at, value_at}, RewardRules.{backup}}
use Rattle.mdp_spec.specs.Tree as tree
use Rattle.mdp_rows.specs.{declared.dir.Dir.{Dir}, Better.{IsAsGood}}
use Rattle.mdp_policy_iteration.specs.{Problem.{Choice, worth, choice_at}, Laws.{IsBestFrom}}
use Rattle.mdp_policy_iteration.specs.Problem as path
use Rattle.mdp_reward.specs.Problem.{may_take, reward_problem}
use Rattle.mdp_reward.proofs.Nodes.{reward-count, reward-choices, reward-choice, reward-candidate}
use Rattle.mdp_reward.proofs.Policies.{transient, is_node, given-node, transient-choice}

module _ (dir : Dir) (m : Mdp) (r : ℕ) (goals finite : List Bool) (start policy : List ℕ) (x : List ℚ) (taking : tree.IsPolicy m start)
    (found : IsBestFrom (reward_problem dir m r goals finite) start policy x) where
  pub given-kept : (s : ℕ) → s < states_of m → transient dir m r goals finite s ≡ false → slice_index policy s ≡ slice_index start s
  given-kept s l e = found.given_kept s (of_int (pos 0)) (is_node dir m r goals finite s l) (given-node dir m r goals finite s l e)

  in_range_by : (s : ℕ) (b : Bool) → s < states_of m → transient dir m r goals finite s ≡ b → slice_index policy s < length (choices_at m s)
  in_range_by s true l e = transient-choice dir m r goals finite policy found.best.is s l e
  in_range_by s false l e = subst (λ (c : ℕ). c < length (choices_at m s)) (sym (given-kept s l e)) (taking.in_range s l)

  pub found-policy : tree.IsPolicy m policy
  found-policy = record {
    one_each = found.best.is.one_each ∙ reward-count dir m r goals finite;
    in_range = λ s l. in_range_by s (transient dir m r goals finite s) l refl;
  }

  -- no choice that a policy may take at a transient state is better than its value
  pub no-better : (s c : ℕ) → s < states_of m → transient dir m r goals finite s ≡ true → c < length (choices_at m s) → may_take dir finite (row_at m s c) ≡ true
      → IsAsGood dir (value_at x s) (backup m r s c x)
  no-better s c l e i may =
      let n = is_node dir m r goals finite s l in
      let has : length (path.choices_at (reward_problem dir m r goals finite) s) ≡ length (choices_at m s) =
      reward-choices dir m r goals finite s n ∙ ap (λ (b : Bool). if b then length (choices_at m s) else 0) e in
      let j : c < length (path.choices_at (reward_problem dir m r goals finite) s) = omega arith in
      subst (IsAsGood dir (value_at x s)) (ap (λ (y : Choice). worth x y.move) (reward-choice dir m r goals finite s c n j).1)
      (found.best.none_better s c n j (reward-candidate dir m r goals finite s n c j ∙ may))
