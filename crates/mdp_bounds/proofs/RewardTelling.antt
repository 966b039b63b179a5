-- A no on bounds of rewards: what the named rule says of the named place is false.
use Rattle.std.proofs.Common.{◌≡◌, ℕ, ◌<◌, ◌⊎◌, Bool, true, false, not, ◌==◌, lt-ltb, ltb-true, eq-eqb, List, [], ◌∷◌, ◌++◌}
use Rattle.std.proofs.Common.{cond, length, slice_index, Option, Some, None, refl, ap}
use Rattle.mdp_math.specs.Rational.{ℚ, ◌≤ℚ◌}
use Rattle.mdp_math.proofs.{Options.{Some_same}, Extremes.{test_of_le}}
use Rattle.mdp_spec.specs.{Mdp.{Mdp, states_of, choices_at, choice_at}, Row.{IsMdp}, Unit.{reward_of}, Tree.{is_marked}, Bounds.{reward_at, infinite}}
use Rattle.mdp_spec.specs.RewardRules.{IsTransient, StaysFinite, Falls, FallsInfinite, StaysInfinite}
use Rattle.mdp_farkas.specs.{Verdict.{Check, verdict_of, at_state}, Compare.{0ℚ}, Reach.{other, choice_exists}}
use Rattle.mdp_farkas.specs.Reward.{stay_check, stay_checks, is_looked_at, rank_fall_check, rank_fall_checks, miss_check, all_miss_check, infinite_checks}
use Rattle.mdp_rows.specs.{declared.dir.Dir.{Dir}, declared.dir.Dir.TheVariants.{Max, Min}}
use Rattle.mdp_claims.specs.{declared.verdict.Fault.{Fault}, declared.verdict.Verdict.TheVariants.{No}}
use Rattle.mdp_claims.specs.declared.rule.Rule.TheVariants.{RewardValue, FiniteTargets, RewardOnEachChoice, RewardOnPolicy}
use Rattle.mdp_farkas.proofs.RewardRules.{stays_of_test, test_of_stays, test_of_falls, test_of_misses, test_of_all_misses}
use Rattle.mdp_farkas.proofs.Telling.{refuted, Tells, tells_none, tells_first, tells_one, tells_append, tells_if, tells_flat, tells_map}
use Rattle.mdp_bounds.specs.Reward.{is_zero, lower_on_each, order_check, nonneg_check, goal_checks, earning_check, earning_checks, policy_earning_check, sign_check, sign_checks}
use Rattle.mdp_bounds.specs.Reward.{half_checks, finite_checks, kind_checks, lower_checks, upper_value_checks, reward_bounds_at, reward_bounds_checks}
use Rattle.mdp_bounds.specs.Says.{lower_column, upper_column, IsFalseOfOne, IsOrderedAt, IsChoice, IsTaken, IsRewardValue, StaysAt, IsSeen, IsEarningBound, RewardSays}
use Rattle.mdp_bounds.proofs.{Earnings.{nonneg_true, zero_true, earning_sound}, RewardRules.{implies}, ReachTelling.{stands_of_bound}}

-- ---- one value, whatever is shown of a fault

module _ (Q : Fault → Type 0) (m : Mdp) (known : IsMdp m) (r : ℕ) (goals : List Bool) (v : List (Option ℚ)) (policy ranks : List ℕ) (s : ℕ) (l : s < states_of m) where
  abbrev choice : ℕ
  choice = slice_index policy s

  abbrev zero_check : Check
  zero_check = at_state RewardValue s (Some (is_zero (reward_at v s)))

  abbrev rank_check : Check
  rank_check = at_state RewardValue s (Some (slice_index ranks s == 0))

  module _ (value_wrong : (IsRewardValue goals v ranks s → ⊥) → Q (record { rule = RewardValue; state = Some s; choice = None })) where
    kind_tells : (without within : List Check) → (is_marked goals s ≡ false → is_marked (infinite v) s ≡ true → Tells Q without) → (IsTransient m goals v s → Tells Q within)
        → Tells Q (nonneg_check v s ∷ kind_checks goals v ranks s without within)
    kind_tells without within outside inside =
        tells_first Q (nonneg_check v s) (kind_checks goals v ranks s without within)
        (λ wrong.
        value_wrong
        (λ value.
        refuted ((x : ℚ) → reward_at v s ≡ Some x → 0ℚ ≤ℚ x) _ (λ h w. ap Some (nonneg_true (reward_at v s) h)) wrong value.0))
        (λ t.
        tells_if Q (is_marked goals s) (goal_checks v ranks s) (cond (is_marked (infinite v) s) without within)
        (λ g.
        tells_first Q zero_check (rank_check ∷ [])
        (λ wrong. value_wrong (λ value. refuted (reward_at v s ≡ Some 0ℚ) _ (λ h w. ap Some (zero_true (reward_at v s) h)) wrong (value.1 g).0))
        (λ t.
        tells_one Q rank_check
        (λ wrong. value_wrong (λ value. refuted (slice_index ranks s ≡ 0) _ (λ h w. ap Some (eq-eqb (slice_index ranks s) 0 h)) wrong (value.1 g).1))))
        (λ g. tells_if Q (is_marked (infinite v) s) without within (outside g) (λ f. inside (l, g, f))))

  module _ (t : IsTransient m goals v s) where
    stays_tell : (dir : Dir) → ((c : ℕ) → (StaysAt dir m goals v policy s c → ⊥) → Q (record { rule = FiniteTargets; state = Some s; choice = Some c }))
        → Tells Q (stay_checks dir m v s choice)
    stays_tell Max stays_wrong =
        tells_map Q (stay_check m v s) (length (choices_at m s))
        (λ c i wrong. stays_wrong c (λ stays. refuted (StaysFinite m v s c) _ (λ h w. ap Some (test_of_stays m v ranks s c h)) wrong (stays t i)))
    stays_tell Min stays_wrong =
        tells_one Q (stay_check m v s choice)
        (λ wrong. stays_wrong choice (λ stays. refuted (StaysFinite m v s choice) _ (λ h w. ap Some (test_of_stays m v ranks s choice h)) wrong (stays t refl)))

    seen : (dir : Dir) (c : ℕ) → is_looked_at dir m v s c ≡ true → IsSeen dir m v s c
    seen Max c e = tt
    seen Min c e = stays_of_test m v ranks s c e

    each_tells : (dir : Dir)
        → ((c : ℕ) → ((IsTransient m goals v s → IsChoice m s c → IsSeen dir m v s c → IsEarningBound dir m r v s c) → ⊥)
        → Q (record { rule = RewardOnEachChoice; state = Some s; choice = Some c }))
        → Tells Q (earning_checks dir m r v s)
    each_tells dir earning_wrong =
        tells_flat Q (λ c. cond (is_looked_at dir m v s c) (earning_check dir m r v s c ∷ []) []) (length (choices_at m s))
        (λ c i.
        tells_if Q (is_looked_at dir m v s c) (earning_check dir m r v s c ∷ []) []
        (λ e.
        tells_one Q (earning_check dir m r v s c)
        (λ wrong.
        earning_wrong c
        (λ earns.
        refuted (IsEarningBound dir m r v s c) _ (λ h w. earning_sound m known r v s c l i dir (stands_of_bound dir _ _ h) w) wrong (earns t i (seen dir c e)))))
        (λ e. tells_none Q))

    policy_tells : (dir : Dir) → IsChoice m s choice
        → (((IsTransient m goals v s → IsTaken policy s choice → IsEarningBound (other dir) m r v s choice) → ⊥)
        → Q (record { rule = RewardOnPolicy; state = Some s; choice = Some choice }))
        → Tells Q (policy_earning_check dir m r v s choice ∷ [])
    policy_tells dir i earning_wrong =
        tells_one Q (policy_earning_check dir m r v s choice)
        (λ wrong.
        earning_wrong
        (λ earns.
        refuted (IsEarningBound (other dir) m r v s choice) _ (λ h w. earning_sound m known r v s choice l i (other dir) (stands_of_bound (other dir) _ _ h) w) wrong (earns t refl)))

-- ---- all rules at a state

abbrev Refutes : Dir → Mdp → ℕ → List Bool → List (Option ℚ) → List (Option ℚ) → List ℕ → List ℕ → Fault → Type 0
Refutes dir m r goals lower upper policy ranks f = IsFalseOfOne (λ side. RewardSays dir m r goals lower upper policy ranks side f.rule f.state f.choice)

module _ (m : Mdp) (known : IsMdp m) (r : ℕ) (goals : List Bool) (lower upper : List (Option ℚ)) (policy ranks : List ℕ) (s : ℕ) (l : s < states_of m) where
  abbrev taken : ℕ
  taken = slice_index policy s

  falls_tell : (dir : Dir) → IsTransient m goals lower s → Tells (Refutes dir m r goals lower upper policy ranks) (rank_fall_checks dir m ranks s taken)
  falls_tell Max t =
      tells_map (Refutes Max m r goals lower upper policy ranks) (rank_fall_check m ranks s) (length (choices_at m s))
      (λ c i wrong. (lower_column, λ says. refuted (Falls m ranks s c) _ (λ h w. ap Some (test_of_falls m lower ranks s c h)) wrong (says t i)))
  falls_tell Min t =
      tells_one (Refutes Min m r goals lower upper policy ranks) (rank_fall_check m ranks s taken)
      (λ wrong. (lower_column, λ says. refuted (Falls m ranks s taken) _ (λ h w. ap Some (test_of_falls m lower ranks s taken h)) wrong (says t refl)))

  misses_tell : (dir : Dir) → is_marked (infinite lower) s ≡ true → Tells (Refutes dir m r goals lower upper policy ranks) (infinite_checks dir m lower ranks s taken)
  misses_tell Max i =
      tells_one (Refutes Max m r goals lower upper policy ranks) (miss_check m lower ranks s taken)
      (λ wrong. (
        lower_column,
        λ says.
            refuted (((slice_index ranks s ≡ 0) × StaysInfinite m lower ranks 0 s taken) ⊎ FallsInfinite m lower ranks s taken) _
            (λ h w. ap Some (test_of_misses m lower ranks s taken h)) wrong (says refl (l, i) refl),
      ))
  misses_tell Min i =
      tells_map (Refutes Min m r goals lower upper policy ranks) (all_miss_check m lower ranks s) (length (choices_at m s))
      (λ c j wrong. (
        lower_column,
        λ says.
            refuted (FallsInfinite m lower ranks s c ⊎ StaysInfinite m lower ranks (slice_index ranks s) s c) _ (λ h w. ap Some (test_of_all_misses m lower ranks s c h)) wrong
            (says refl (l, i) j),
      ))

  lower_half : (dir : Dir) → IsChoice m s taken → IsTransient m goals lower s
      → Tells (Refutes dir m r goals lower upper policy ranks) (half_checks (lower_on_each dir) dir m r lower s taken)
  lower_half Max i t =
      policy_tells (Refutes Max m r goals lower upper policy ranks) m known r goals lower policy ranks s l t Max i (λ wrong. (lower_column, wrong))
  lower_half Min i t =
      each_tells (Refutes Min m r goals lower upper policy ranks) m known r goals lower policy ranks s l t Min (λ c wrong. (lower_column, wrong))

  upper_half : (dir : Dir) → IsChoice m s taken → IsTransient m goals upper s
      → Tells (Refutes dir m r goals lower upper policy ranks) (half_checks (not (lower_on_each dir)) dir m r upper s taken)
  upper_half Max i t =
      each_tells (Refutes Max m r goals lower upper policy ranks) m known r goals upper policy ranks s l t Max (λ c wrong. (upper_column, wrong))
  upper_half Min i t =
      policy_tells (Refutes Min m r goals lower upper policy ranks) m known r goals upper policy ranks s l t Min i (λ wrong. (upper_column, wrong))

  module _ (dir : Dir) where
    abbrev Q : Fault → Type 0
    Q f = Refutes dir m r goals lower upper policy ranks f

    abbrev low_finite : List Check
    low_finite = finite_checks (lower_on_each dir) dir m r lower s taken

    lower_tells : IsChoice m s taken → Tells Q (lower_checks dir m r goals lower ranks s taken)
    lower_tells i =
        kind_tells Q m known r goals lower policy ranks s l (λ wrong. (lower_column, λ says. wrong (says l).1)) (infinite_checks dir m lower ranks s taken) (low_finite ++ rank_fall_checks dir m ranks s taken)
        (λ g i. misses_tell dir i)
        (λ t.
        tells_append Q low_finite (rank_fall_checks dir m ranks s taken)
        (tells_append Q (stay_checks dir m lower s taken) (half_checks (lower_on_each dir) dir m r lower s taken)
        (stays_tell Q m known r goals lower policy ranks s l t dir (λ c wrong. (lower_column, wrong))) (λ held. lower_half dir i t)) (λ held. falls_tell dir t))

    upper_tells : IsChoice m s taken → Tells Q (upper_value_checks dir m r goals upper ranks s taken)
    upper_tells i =
        kind_tells Q m known r goals upper policy ranks s l (λ wrong. (upper_column, λ says. wrong (says l).1)) [] (finite_checks (not (lower_on_each dir)) dir m r upper s taken) (λ g i. tells_none Q)
        (λ t.
        tells_append Q (stay_checks dir m upper s taken) (half_checks (not (lower_on_each dir)) dir m r upper s taken)
        (stays_tell Q m known r goals upper policy ranks s l t dir (λ c wrong. (upper_column, wrong))) (λ held. upper_half dir i t))

    signs_tell : Tells Q (sign_checks m r s)
    signs_tell =
        tells_map Q (sign_check m r s) (length (choices_at m s))
        (λ c i wrong. (lower_column, λ says. refuted (0ℚ ≤ℚ reward_of (choice_at m s c) r) _ (λ h w. ap Some (test_of_le 0ℚ (reward_of (choice_at m s c) r) h)) wrong (says l i)))

    state_tells : Tells Q (reward_bounds_at dir m r goals lower upper ranks s taken)
    state_tells =
        let low : List Check = lower_checks dir m r goals lower ranks s taken in
        let high : List Check = upper_value_checks dir m r goals upper ranks s taken in
        tells_first Q (choice_exists m s taken) (order_check lower upper s ∷ (low ++ (high ++ sign_checks m r s)))
        (λ wrong. (lower_column, λ says. refuted (IsChoice m s taken) _ (λ i w. ap Some (lt-ltb taken (length (choices_at m s)) i)) wrong (says l refl)))
        (λ takes.
        let i = ltb-true taken (length (choices_at m s)) (Some_same _ _ takes) in
        tells_first Q (order_check lower upper s) (low ++ (high ++ sign_checks m r s))
        (λ wrong. (
          lower_column,
          λ says.
              refuted (IsOrderedAt lower upper s) _ (λ h w. ap Some (implies (is_marked (infinite lower) s) (is_marked (infinite upper) s) h)) wrong (says l).0,
        ))
        (λ ordered. tells_append Q low (high ++ sign_checks m r s) (lower_tells i) (λ held. tells_append Q high (sign_checks m r s) (upper_tells i) (λ held. signs_tell))))

pub reward_refuted : (dir : Dir) (m : Mdp) (r : ℕ) (goals : List Bool) (lower upper : List (Option ℚ)) (policy ranks : List ℕ) (fault : Fault) → IsMdp m
    → verdict_of (reward_bounds_checks dir m r goals lower upper policy ranks) ≡ No fault
    → IsFalseOfOne (λ side. RewardSays dir m r goals lower upper policy ranks side fault.rule fault.state fault.choice)
reward_refuted dir m r goals lower upper policy ranks fault known =
    tells_flat (Refutes dir m r goals lower upper policy ranks) (λ s. reward_bounds_at dir m r goals lower upper ranks s (slice_index policy s)) (states_of m)
    (λ s l. state_tells m known r goals lower upper policy ranks s l dir) fault
