-- A no to an upper bound, or to values and a policy: what the named rule says of the named place is false.
use Rattle.std.proofs.Common.{◌≡◌, ℕ, ◌<◌, ◌⊎◌, inl, inr, ⊎_elim, Bool, true, false, lt-ltb, eq-eqb, List}
use Rattle.std.proofs.Common.{[], ◌∷◌, ◌++◌, cond, length, slice_index, Some, None, refl, ap}
use Rattle.mdp_math.specs.Rational.{ℚ, lt_ℚ, ◌≤ℚ◌, ◌<ℚ◌}
use Rattle.mdp_math.proofs.{Extremes.{lt_of_test, le_of_no_test}, Order.{≤ℚ_antisymm}}
use Rattle.mdp_spec.specs.{Mdp.{Mdp, states_of, choices_at, value_at}, Tree.{is_marked}}
use Rattle.mdp_farkas.specs.{Verdict.{Check, verdict_of, at_state}, Compare.{0ℚ, 1ℚ, is_at_least, is_at_most}, Bellman.{bound_check, bound_checks}}
use Rattle.mdp_farkas.specs.Upper.{probability_checks, goal_check, upper_at, upper_checks}
use Rattle.mdp_farkas.specs.Reach.{other, choice_exists, policy_check, value_checks, ends, rank_check, fall_check, fall_checks, rank_checks, reach_at, reach_checks}
use Rattle.mdp_farkas.specs.Says.{IsChoice, IsRowBound, LeadsOn, IsProbability, UpperSays, ReachSays}
use Rattle.mdp_rows.specs.{declared.dir.Dir.{Dir}, declared.dir.Dir.TheVariants.{Max, Min}}
use Rattle.mdp_claims.specs.{declared.verdict.Fault.{Fault}, declared.verdict.Verdict.TheVariants.{No}}
use Rattle.mdp_claims.specs.declared.rule.Rule.TheVariants.{GoalValue, Probability, ValueOnEachChoice}
use Rattle.mdp_farkas.proofs.{Comparing.{le_of_at_least, at_least_of_le, at_most_of_le, equal_of_same}, Inequalities.{of_stands_at}}
use Rattle.mdp_farkas.proofs.ReachRules.{of_end, of_no_end, falls_max, falls_min}
use Rattle.mdp_farkas.proofs.Telling.{refuted, Tells, tells_first, tells_one, tells_append, tells_if, tells_flat, tells_map}

-- ---- one value, whatever is shown of a fault

module _ (Q : Fault → Type 0) (m : Mdp) (goals : List Bool) (z : List ℚ) (s : ℕ) where
  abbrev low_check : Check
  low_check = at_state Probability s (is_at_least (value_at z s) 0ℚ)

  abbrev high_check : Check
  high_check = at_state Probability s (is_at_most (value_at z s) 1ℚ)

  probability_tells : ((IsProbability (value_at z s) → ⊥) → Q (record { rule = Probability; state = Some s; choice = None })) → Tells Q (probability_checks z s)
  probability_tells wrong_value =
      tells_first Q low_check (high_check ∷ [])
      (λ wrong. wrong_value (λ is. refuted (0ℚ ≤ℚ value_at z s) _ (λ h w. at_least_of_le (value_at z s) 0ℚ h w) wrong is.0))
      (λ t. tells_one Q high_check (λ wrong. wrong_value (λ is. refuted (value_at z s ≤ℚ 1ℚ) _ (λ h w. at_most_of_le (value_at z s) 1ℚ h w) wrong is.1)))

  goal_tells : ((value_at z s ≡ 1ℚ → ⊥) → Q (record { rule = GoalValue; state = Some s; choice = None })) → Tells Q (goal_check z s ∷ [])
  goal_tells wrong_value = tells_one Q (goal_check z s) (λ wrong. wrong_value (λ e. refuted (value_at z s ≡ 1ℚ) _ (λ h w. equal_of_same (value_at z s) 1ℚ h w) wrong e))

  bounds_tell : (dir : Dir)
      → ((c : ℕ) → IsChoice m s c → (IsRowBound dir m z s c → ⊥) → Q (record { rule = ValueOnEachChoice; state = Some s; choice = Some c })) → Tells Q (bound_checks dir m z s)
  bounds_tell dir wrong_bound =
      tells_map Q (bound_check dir m z s) (length (choices_at m s))
      (λ c i wrong. wrong_bound c i (λ le. refuted (IsRowBound dir m z s c) _ (λ h w. of_stands_at m z dir s c h w) wrong le))

-- ---- upper bounds

module _ (m : Mdp) (goals : List Bool) (z : List ℚ) where
  abbrev RefutesUpper : Fault → Type 0
  RefutesUpper f = UpperSays m goals z f.rule f.state f.choice → ⊥

  upper_state_tells : (s : ℕ) → s < states_of m → Tells RefutesUpper (upper_at m goals z s)
  upper_state_tells s l =
      tells_append RefutesUpper (probability_checks z s) (cond (is_marked goals s) (goal_check z s ∷ []) (bound_checks Max m z s))
      (probability_tells RefutesUpper m goals z s (λ wrong says. wrong (says l)))
      (λ held.
      tells_if RefutesUpper (is_marked goals s) (goal_check z s ∷ []) (bound_checks Max m z s)
      (λ g. goal_tells RefutesUpper m goals z s (λ wrong says. wrong (says l g)))
      (λ g. bounds_tell RefutesUpper m goals z s Max (λ c i wrong says. wrong (says l g i))))

  upper_tells : Tells RefutesUpper (upper_checks m goals z)
  upper_tells = tells_flat RefutesUpper (upper_at m goals z) (states_of m) upper_state_tells

pub upper_refuted : (m : Mdp) (goals : List Bool) (z : List ℚ) (fault : Fault) → verdict_of (upper_checks m goals z) ≡ No fault
    → UpperSays m goals z fault.rule fault.state fault.choice → ⊥
upper_refuted m goals z fault = upper_tells m goals z fault

-- ---- values and a policy

-- a goal, or a value that isn't above 0
ends_at : (goals : List Bool) (z : List ℚ) (s : ℕ) → 0ℚ ≤ℚ value_at z s → ends goals z s ≡ true → (is_marked goals s ≡ true) ⊎ (value_at z s ≡ 0ℚ)
ends_at goals z s h e =
    ⊎_elim (λ g. inl g) (λ n. inr (≤ℚ_antisymm _ _ (le_of_no_test 0ℚ (value_at z s) n) h)) (of_end (is_marked goals s) (lt_ℚ 0ℚ (value_at z s)) e)

abbrev Refutes : Dir → Mdp → List Bool → List ℚ → List ℕ → List ℕ → Fault → Type 0
Refutes dir m goals z policy ranks f = ReachSays dir m goals z policy ranks f.rule f.state f.choice → ⊥

module _ (m : Mdp) (goals : List Bool) (z : List ℚ) (policy ranks : List ℕ) (s : ℕ) (l : s < states_of m) where
  abbrev taken : ℕ
  taken = slice_index policy s

  sums_tell : (dir : Dir) → is_marked goals s ≡ false → Tells (Refutes dir m goals z policy ranks) (bound_checks dir m z s ++ policy_check dir m z s taken ∷ [])
  sums_tell dir g =
      tells_append (Refutes dir m goals z policy ranks) (bound_checks dir m z s) (policy_check dir m z s taken ∷ [])
      (bounds_tell (Refutes dir m goals z policy ranks) m goals z s dir (λ c i wrong says. wrong (says l g i)))
      (λ held.
      tells_one (Refutes dir m goals z policy ranks) (policy_check dir m z s taken)
      (λ wrong says. refuted (IsRowBound (other dir) m z s taken) _ (λ h w. of_stands_at m z (other dir) s taken h w) wrong (says l g refl)))

  values_tell : (dir : Dir) → Tells (Refutes dir m goals z policy ranks) (value_checks dir m goals z s taken)
  values_tell dir =
      tells_if (Refutes dir m goals z policy ranks) (is_marked goals s) (goal_check z s ∷ []) (bound_checks dir m z s ++ policy_check dir m z s taken ∷ [])
      (λ g. goal_tells (Refutes dir m goals z policy ranks) m goals z s (λ wrong says. wrong (says l g))) (sums_tell dir)

  falls_tell : (dir : Dir) → is_marked goals s ≡ false → 0ℚ <ℚ value_at z s → Tells (Refutes dir m goals z policy ranks) (fall_checks dir m z ranks s taken)
  falls_tell Max g p =
      tells_one (Refutes Max m goals z policy ranks) (fall_check Max m z ranks s taken)
      (λ wrong says. refuted (LeadsOn Max m z ranks s taken) _ (λ h w. ap Some (falls_max m z ranks s taken h)) wrong (says l g p refl))
  falls_tell Min g p =
      tells_map (Refutes Min m goals z policy ranks) (fall_check Min m z ranks s) (length (choices_at m s))
      (λ c i wrong says. refuted (LeadsOn Min m z ranks s c) _ (λ h w. ap Some (falls_min m z ranks s c h)) wrong (says l g p i))

  ranks_tell : (dir : Dir) → 0ℚ ≤ℚ value_at z s → Tells (Refutes dir m goals z policy ranks) (rank_checks dir m goals z ranks s taken)
  ranks_tell dir nonneg =
      tells_if (Refutes dir m goals z policy ranks) (ends goals z s) (rank_check ranks s ∷ []) (fall_checks dir m z ranks s taken)
      (λ e.
      tells_one (Refutes dir m goals z policy ranks) (rank_check ranks s)
      (λ wrong says. refuted (slice_index ranks s ≡ 0) _ (λ h w. ap Some (eq-eqb (slice_index ranks s) 0 h)) wrong (says l (ends_at goals z s nonneg e))))
      (λ e. let n = of_no_end (is_marked goals s) (lt_ℚ 0ℚ (value_at z s)) e in falls_tell dir n.0 (lt_of_test 0ℚ (value_at z s) n.1))

  state_tells : (dir : Dir) → Tells (Refutes dir m goals z policy ranks) (reach_at dir m goals z ranks s taken)
  state_tells dir =
      let values : List Check = value_checks dir m goals z s taken in
      let rank : List Check = rank_checks dir m goals z ranks s taken in
      tells_first (Refutes dir m goals z policy ranks) (choice_exists m s taken) (probability_checks z s ++ (values ++ rank))
      (λ wrong says. refuted (IsChoice m s taken) _ (λ i w. ap Some (lt-ltb taken (length (choices_at m s)) i)) wrong (says l refl))
      (λ takes.
      tells_append (Refutes dir m goals z policy ranks) (probability_checks z s) (values ++ rank)
      (probability_tells (Refutes dir m goals z policy ranks) m goals z s (λ wrong says. wrong (says l)))
      (λ held.
      tells_append (Refutes dir m goals z policy ranks) values rank (values_tell dir)
      (λ sums. ranks_tell dir (le_of_at_least (value_at z s) 0ℚ held.0))))

pub reach_refuted : (dir : Dir) (m : Mdp) (goals : List Bool) (z : List ℚ) (policy ranks : List ℕ) (fault : Fault)
    → verdict_of (reach_checks dir m goals z policy ranks) ≡ No fault → ReachSays dir m goals z policy ranks fault.rule fault.state fault.choice → ⊥
reach_refuted dir m goals z policy ranks fault =
    tells_flat (Refutes dir m goals z policy ranks) (λ s. reach_at dir m goals z ranks s (slice_index policy s)) (states_of m)
    (λ s l. state_tells m goals z policy ranks s l dir) fault
