-- A no on rewards until a goal: what the named rule says of the named place is false.
use Rattle.std.proofs.Common.{◌≡◌, ℕ, ◌<◌, Bool, true, ◌==◌, lt-ltb, eq-eqb, List, [], ◌∷◌, ◌++◌, cond, length, slice_index, Option, Some, refl, ap}
use Rattle.mdp_math.specs.Rational.{ℚ, ◌≤ℚ◌}
use Rattle.mdp_spec.specs.{Mdp.{Mdp, states_of, choices_at, choice_at, row_at, value_at}, Unit.{reward_of}, Tree.{is_marked}}
use Rattle.mdp_spec.specs.{Bounds.{reward_at, finite_part, infinite}, RewardRules.{IsTransient, StaysFinite, Falls}}
use Rattle.mdp_farkas.specs.{Verdict.{Check, verdict_of, at_state}, Compare.{0ℚ}, Reach.{other, choice_exists}}
use Rattle.mdp_farkas.specs.Reward.{is_zero, nonneg_check, goal_checks, stay_check, stay_checks, is_looked_at, earning_check, earning_checks, policy_earning_check}
use Rattle.mdp_farkas.specs.Reward.{rank_fall_check, rank_fall_checks, transient_checks, miss_check, all_miss_check, infinite_checks, place_checks, sign_check, sign_checks}
use Rattle.mdp_farkas.specs.{Reward.{reward_checks_at, reward_checks}, Says.{IsChoice, IsSeen, IsEarningBound, Misses, MayMiss, RewardSays}}
use Rattle.mdp_rows.specs.{declared.dir.Dir.{Dir}, declared.dir.Dir.TheVariants.{Max, Min}}
use Rattle.mdp_claims.specs.{declared.verdict.Fault.{Fault}, declared.verdict.Verdict.TheVariants.{No}, declared.rule.Rule.TheVariants.{RewardValue}}
use Rattle.mdp_farkas.proofs.{Comparing.{at_least_of_le}, Inequalities.{of_sum_stands}}
use Rattle.mdp_farkas.proofs.RewardRules.{nonneg_sound, zero_sound, stays_of_test, test_of_stays, test_of_falls, test_of_misses, test_of_all_misses}
use Rattle.mdp_farkas.proofs.Telling.{refuted, Tells, tells_none, tells_first, tells_one, tells_append, tells_if, tells_flat, tells_map}

abbrev Refutes : Dir → Mdp → ℕ → List Bool → List (Option ℚ) → List ℕ → List ℕ → Fault → Type 0
Refutes dir m r goals v policy ranks f = RewardSays dir m r goals v policy ranks f.rule f.state f.choice → ⊥

module _ (m : Mdp) (r : ℕ) (goals : List Bool) (v : List (Option ℚ)) (policy ranks : List ℕ) (s : ℕ) (l : s < states_of m) where
  abbrev taken : ℕ
  taken = slice_index policy s

  abbrev zero_check : Check
  zero_check = at_state RewardValue s (is_zero (reward_at v s))

  abbrev rank_check : Check
  rank_check = at_state RewardValue s (Some (slice_index ranks s == 0))

  -- ---- a goal, and a state of infinite value

  goal_tells : (dir : Dir) → is_marked goals s ≡ true → Tells (Refutes dir m r goals v policy ranks) (goal_checks v ranks s)
  goal_tells dir g =
      tells_first (Refutes dir m r goals v policy ranks) zero_check (rank_check ∷ [])
      (λ wrong says. refuted (reward_at v s ≡ Some 0ℚ) _ (λ h w. zero_sound (reward_at v s) h w) wrong ((says l).1 g).0)
      (λ t.
      tells_one (Refutes dir m r goals v policy ranks) rank_check
      (λ wrong says. refuted (slice_index ranks s ≡ 0) _ (λ h w. ap Some (eq-eqb (slice_index ranks s) 0 h)) wrong ((says l).1 g).1))

  misses_tell : (dir : Dir) → is_marked (infinite v) s ≡ true → Tells (Refutes dir m r goals v policy ranks) (infinite_checks dir m v ranks s taken)
  misses_tell Max i =
      tells_one (Refutes Max m r goals v policy ranks) (miss_check m v ranks s taken)
      (λ wrong says. refuted (Misses m v ranks s taken) _ (λ h w. ap Some (test_of_misses m v ranks s taken h)) wrong (says refl (l, i) refl))
  misses_tell Min i =
      tells_map (Refutes Min m r goals v policy ranks) (all_miss_check m v ranks s) (length (choices_at m s))
      (λ c j wrong says. refuted (MayMiss m v ranks s c) _ (λ h w. ap Some (test_of_all_misses m v ranks s c h)) wrong (says refl (l, i) j))

  -- ---- a state of finite value that is no goal

  stays_tell : (dir : Dir) → IsTransient m goals v s → Tells (Refutes dir m r goals v policy ranks) (stay_checks dir m v s taken)
  stays_tell Max t =
      tells_map (Refutes Max m r goals v policy ranks) (stay_check m v s) (length (choices_at m s))
      (λ c i wrong says. refuted (StaysFinite m v s c) _ (λ h w. ap Some (test_of_stays m v ranks s c h)) wrong (says t i))
  stays_tell Min t =
      tells_one (Refutes Min m r goals v policy ranks) (stay_check m v s taken)
      (λ wrong says. refuted (StaysFinite m v s taken) _ (λ h w. ap Some (test_of_stays m v ranks s taken h)) wrong (says t refl))

  seen : (dir : Dir) (c : ℕ) → is_looked_at dir m v s c ≡ true → IsSeen dir m v s c
  seen Max c e = tt
  seen Min c e = stays_of_test m v ranks s c e

  earnings_tell : (dir : Dir) → IsTransient m goals v s → Tells (Refutes dir m r goals v policy ranks) (earning_checks dir m r v s)
  earnings_tell dir t =
      tells_flat (Refutes dir m r goals v policy ranks) (λ c. cond (is_looked_at dir m v s c) (earning_check dir m r v s c ∷ []) []) (length (choices_at m s))
      (λ c i.
      tells_if (Refutes dir m r goals v policy ranks) (is_looked_at dir m v s c) (earning_check dir m r v s c ∷ []) []
      (λ e.
      tells_one (Refutes dir m r goals v policy ranks) (earning_check dir m r v s c)
      (λ wrong says.
      refuted (IsEarningBound dir m r v s c) _
      (λ h w. of_sum_stands dir (value_at (finite_part v) s) (finite_part v) (reward_of (choice_at m s c) r) (row_at m s c) h w) wrong (says t i (seen dir c e))))
      (λ e. tells_none (Refutes dir m r goals v policy ranks)))

  falls_tell : (dir : Dir) → IsTransient m goals v s → Tells (Refutes dir m r goals v policy ranks) (rank_fall_checks dir m ranks s taken)
  falls_tell Max t =
      tells_map (Refutes Max m r goals v policy ranks) (rank_fall_check m ranks s) (length (choices_at m s))
      (λ c i wrong says. refuted (Falls m ranks s c) _ (λ h w. ap Some (test_of_falls m v ranks s c h)) wrong (says t i))
  falls_tell Min t =
      tells_one (Refutes Min m r goals v policy ranks) (rank_fall_check m ranks s taken)
      (λ wrong says. refuted (Falls m ranks s taken) _ (λ h w. ap Some (test_of_falls m v ranks s taken h)) wrong (says t refl))

  policy_tells : (dir : Dir) → IsTransient m goals v s → Tells (Refutes dir m r goals v policy ranks) (policy_earning_check dir m r v s taken ∷ rank_fall_checks dir m ranks s taken)
  policy_tells dir t =
      tells_first (Refutes dir m r goals v policy ranks) (policy_earning_check dir m r v s taken) (rank_fall_checks dir m ranks s taken)
      (λ wrong says.
      refuted (IsEarningBound (other dir) m r v s taken) _
      (λ h w. of_sum_stands (other dir) (value_at (finite_part v) s) (finite_part v) (reward_of (choice_at m s taken) r) (row_at m s taken) h w) wrong (says t refl))
      (λ held. falls_tell dir t)

  transient_tells : (dir : Dir) → IsTransient m goals v s → Tells (Refutes dir m r goals v policy ranks) (transient_checks dir m r v ranks s taken)
  transient_tells dir t =
      let last : List Check = policy_earning_check dir m r v s taken ∷ rank_fall_checks dir m ranks s taken in
      tells_append (Refutes dir m r goals v policy ranks) (stay_checks dir m v s taken) (earning_checks dir m r v s ++ last) (stays_tell dir t)
      (λ stays. tells_append (Refutes dir m r goals v policy ranks) (earning_checks dir m r v s) last (earnings_tell dir t) (λ earns. policy_tells dir t))

  -- ---- all rules at a state

  place_tells : (dir : Dir) → Tells (Refutes dir m r goals v policy ranks) (place_checks dir m r goals v ranks s taken)
  place_tells dir =
      tells_if (Refutes dir m r goals v policy ranks) (is_marked goals s) (goal_checks v ranks s)
      (cond (is_marked (infinite v) s) (infinite_checks dir m v ranks s taken) (transient_checks dir m r v ranks s taken)) (goal_tells dir)
      (λ g.
      tells_if (Refutes dir m r goals v policy ranks) (is_marked (infinite v) s) (infinite_checks dir m v ranks s taken) (transient_checks dir m r v ranks s taken) (misses_tell dir)
      (λ f. transient_tells dir (l, g, f)))

  signs_tell : (dir : Dir) → Tells (Refutes dir m r goals v policy ranks) (sign_checks m r s)
  signs_tell dir =
      tells_map (Refutes dir m r goals v policy ranks) (sign_check m r s) (length (choices_at m s))
      (λ c i wrong says. refuted (0ℚ ≤ℚ reward_of (choice_at m s c) r) _ (λ h w. at_least_of_le (reward_of (choice_at m s c) r) 0ℚ h w) wrong (says l i))

  state_tells : (dir : Dir) → Tells (Refutes dir m r goals v policy ranks) (reward_checks_at dir m r goals v ranks s taken)
  state_tells dir =
      let place : List Check = place_checks dir m r goals v ranks s taken in
      tells_first (Refutes dir m r goals v policy ranks) (choice_exists m s taken) (nonneg_check v s ∷ (place ++ sign_checks m r s))
      (λ wrong says. refuted (IsChoice m s taken) _ (λ i w. ap Some (lt-ltb taken (length (choices_at m s)) i)) wrong (says l refl))
      (λ takes.
      tells_first (Refutes dir m r goals v policy ranks) (nonneg_check v s) (place ++ sign_checks m r s)
      (λ wrong says. refuted ((x : ℚ) → reward_at v s ≡ Some x → 0ℚ ≤ℚ x) _ (λ h w. nonneg_sound (reward_at v s) h w) wrong (says l).0)
      (λ nonneg. tells_append (Refutes dir m r goals v policy ranks) place (sign_checks m r s) (place_tells dir) (λ held. signs_tell dir)))

pub reward_refuted : (dir : Dir) (m : Mdp) (r : ℕ) (goals : List Bool) (v : List (Option ℚ)) (policy ranks : List ℕ) (fault : Fault)
    → verdict_of (reward_checks dir m r goals v policy ranks) ≡ No fault → RewardSays dir m r goals v policy ranks fault.rule fault.state fault.choice → ⊥
reward_refuted dir m r goals v policy ranks fault =
    tells_flat (Refutes dir m r goals v policy ranks) (λ s. reward_checks_at dir m r goals v ranks s (slice_index policy s)) (states_of m)
    (λ s l. state_tells m r goals v policy ranks s l dir) fault
