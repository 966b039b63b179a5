-- A no on bounds of probabilities: what the named rule says of the named place is false.
use Rattle.std.proofs.Common.{◌≡◌, ℕ, ◌<◌, ◌⊎◌, inl, inr, ⊎_elim, Bool, true, false, true≢false, not, lt-ltb, ltb-true, eq-eqb, List}
use Rattle.std.proofs.Common.{[], ◌∷◌, ◌++◌, cond, length, slice_index, Some, refl, ap}
use Rattle.mdp_math.specs.Rational.{ℚ, le_ℚ, lt_ℚ, ◌≤ℚ◌, ◌<ℚ◌}
use Rattle.mdp_math.proofs.{Booleans.{not_true, or-left_false, or-right_false}, Options.{Some_same}}
use Rattle.mdp_math.proofs.{Extremes.{le_of_test, test_of_le, lt_of_test, le_of_no_test}, Order.{≤ℚ_antisymm}}
use Rattle.mdp_num.specs.OrderView.{equal_decides}
use Rattle.mdp_spec.specs.{Mdp.{Mdp, states_of, choices_at, value_at}, Row.{IsMdp}, Tree.{is_marked}}
use Rattle.mdp_farkas.specs.{Verdict.{Check, verdict_of, at_state, at_choices}, Compare.{0ℚ, 1ℚ}}
use Rattle.mdp_farkas.specs.Reach.{other, choice_exists, ends, rank_check, fall_check, fall_checks, rank_checks}
use Rattle.mdp_rows.specs.{declared.dir.Dir.{Dir}, declared.dir.Dir.TheVariants.{Max, Min}}
use Rattle.mdp_claims.specs.{declared.verdict.Fault.{Fault}, declared.verdict.Verdict.TheVariants.{No}, declared.rule.Rule.TheVariants.{Probability}}
use Rattle.mdp_farkas.proofs.{Holds.{Each, Holds}, Inequalities.{Stands}, ReachRules.{falls_max, falls_min}, Tests.{or-parts}}
use Rattle.mdp_farkas.proofs.Telling.{refuted, Tells, tells_first, tells_one, tells_append, tells_if, tells_flat, tells_map}
use Rattle.mdp_bounds.specs.Reach.{covering, followed, goal_check, values_at, bound_check, policy_check, cover_at, follow_at, bounds_at, bounds_checks}
use Rattle.mdp_bounds.specs.Says.{Column, column, lower_column, upper_column, IsFalseOfOne, IsBound, IsChoice, LeadsOn, IsRowBound, ReachSays}
use Rattle.mdp_bounds.proofs.Values.{of_stands_at}

pub stands_of_bound : (dir : Dir) (x y : ℚ) → IsBound dir x y → Stands dir x y
stands_of_bound Max x y h = h
stands_of_bound Min x y h = h

-- a goal, or a value that isn't above 0
end_of : (goals : List Bool) (z : List ℚ) (s : ℕ) → 0ℚ ≤ℚ value_at z s → ends goals z s ≡ true → (is_marked goals s ≡ true) ⊎ (value_at z s ≡ 0ℚ)
end_of goals z s h e =
    ⊎_elim (λ g. inl g) (λ n. inr (≤ℚ_antisymm _ _ (le_of_no_test 0ℚ (value_at z s) (not_true (lt_ℚ 0ℚ (value_at z s)) n)) h))
    (or-parts (is_marked goals s) _ e)

abbrev Refutes : Dir → Mdp → List Bool → List ℚ → List ℚ → List ℕ → List ℕ → Fault → Type 0
Refutes dir m goals lower upper policy ranks f = IsFalseOfOne (λ side. ReachSays dir m goals lower upper policy ranks side f.rule f.state f.choice)

module _ (m : Mdp) (known : IsMdp m) (goals : List Bool) (lower upper : List ℚ) (policy ranks : List ℕ) (s : ℕ) (l : s < states_of m) where
  -- ---- the values of a half

  abbrev low_check : List ℚ → Check
  low_check z = at_state Probability s (Some (le_ℚ 0ℚ (value_at z s)))

  abbrev high_check : List ℚ → Check
  high_check z = at_state Probability s (Some (le_ℚ (value_at z s) 1ℚ))

  side_tells : (dir : Dir) (side : Column) (rest : List Check) → (is_marked goals s ≡ false → Tells (Refutes dir m goals lower upper policy ranks) rest)
      → Tells (Refutes dir m goals lower upper policy ranks) (values_at goals (column side lower upper) s rest)
  side_tells dir side rest others =
      let z : List ℚ = column side lower upper in
      tells_first (Refutes dir m goals lower upper policy ranks) (low_check z) (high_check z ∷ cond (is_marked goals s) (goal_check z s ∷ []) rest)
      (λ wrong. (side, λ says. refuted (0ℚ ≤ℚ value_at z s) _ (λ h w. ap Some (test_of_le 0ℚ (value_at z s) h)) wrong (says l).0))
      (λ t.
      tells_first (Refutes dir m goals lower upper policy ranks) (high_check z) (cond (is_marked goals s) (goal_check z s ∷ []) rest)
      (λ wrong. (side, λ says. refuted (value_at z s ≤ℚ 1ℚ) _ (λ h w. ap Some (test_of_le (value_at z s) 1ℚ h)) wrong (says l).1))
      (λ t.
      tells_if (Refutes dir m goals lower upper policy ranks) (is_marked goals s) (goal_check z s ∷ []) rest
      (λ g.
      tells_one (Refutes dir m goals lower upper policy ranks) (goal_check z s)
      (λ wrong. (side, λ says. refuted (value_at z s ≡ 1ℚ) _ (λ h w. ap Some ((equal_decides (value_at z s) 1ℚ).1 h)) wrong (says l g)))) others))

  each_tells : (dir : Dir) → is_marked goals s ≡ false
      → Tells (Refutes dir m goals lower upper policy ranks) (at_choices m s (bound_check dir m (covering dir lower upper) s))
  each_tells dir g =
      tells_map (Refutes dir m goals lower upper policy ranks) (bound_check dir m (covering dir lower upper) s) (length (choices_at m s))
      (λ c i wrong. (
        lower_column,
        λ says.
            refuted (IsRowBound dir m (covering dir lower upper) s c) _ (λ h w. of_stands_at m known (covering dir lower upper) dir s c l i (stands_of_bound dir _ _ h) w) wrong (says l g i),
      ))

  taken_tells : (dir : Dir) → slice_index policy s < length (choices_at m s) → is_marked goals s ≡ false
      → Tells (Refutes dir m goals lower upper policy ranks) (policy_check dir m (followed dir lower upper) s (slice_index policy s) ∷ [])
  taken_tells dir i g =
      tells_one (Refutes dir m goals lower upper policy ranks) (policy_check dir m (followed dir lower upper) s (slice_index policy s))
      (λ wrong. (
        lower_column,
        λ says.
            refuted (IsRowBound (other dir) m (followed dir lower upper) s (slice_index policy s)) _
            (λ h w. of_stands_at m known (followed dir lower upper) (other dir) s (slice_index policy s) l i (stands_of_bound (other dir) _ _ h) w) wrong (says l g refl),
      ))

  cover_tells : (dir : Dir) → Tells (Refutes dir m goals lower upper policy ranks) (cover_at dir m goals (covering dir lower upper) s)
  cover_tells Max = side_tells Max upper_column (at_choices m s (bound_check Max m upper s)) (each_tells Max)
  cover_tells Min = side_tells Min lower_column (at_choices m s (bound_check Min m lower s)) (each_tells Min)

  follow_tells : (dir : Dir) → slice_index policy s < length (choices_at m s)
      → Tells (Refutes dir m goals lower upper policy ranks) (follow_at dir m goals (followed dir lower upper) s (slice_index policy s))
  follow_tells Max i = side_tells Max lower_column (policy_check Max m lower s (slice_index policy s) ∷ []) (taken_tells Max i)
  follow_tells Min i = side_tells Min upper_column (policy_check Min m upper s (slice_index policy s) ∷ []) (taken_tells Min i)

  -- ---- the ranks

  lower_nonneg : (dir : Dir) → Each Holds (cover_at dir m goals (covering dir lower upper) s) → Each Holds (follow_at dir m goals (followed dir lower upper) s (slice_index policy s))
      → 0ℚ ≤ℚ value_at lower s
  lower_nonneg Max covers follows = le_of_test 0ℚ (value_at lower s) (Some_same _ _ follows.0)
  lower_nonneg Min covers follows = le_of_test 0ℚ (value_at lower s) (Some_same _ _ covers.0)

  falls_tell : (dir : Dir) → is_marked goals s ≡ false → 0ℚ <ℚ value_at lower s
      → Tells (Refutes dir m goals lower upper policy ranks) (fall_checks dir m lower ranks s (slice_index policy s))
  falls_tell Max g p =
      tells_one (Refutes Max m goals lower upper policy ranks) (fall_check Max m lower ranks s (slice_index policy s))
      (λ wrong. (
        lower_column,
        λ says.
            refuted (LeadsOn Max m lower ranks s (slice_index policy s)) _ (λ h w. ap Some (falls_max m lower ranks s (slice_index policy s) h)) wrong (says l g p refl),
      ))
  falls_tell Min g p =
      tells_map (Refutes Min m goals lower upper policy ranks) (fall_check Min m lower ranks s) (length (choices_at m s))
      (λ c i wrong. (lower_column, λ says. refuted (LeadsOn Min m lower ranks s c) _ (λ h w. ap Some (falls_min m lower ranks s c h)) wrong (says l g p i)))

  ranks_tell : (dir : Dir) → 0ℚ ≤ℚ value_at lower s → Tells (Refutes dir m goals lower upper policy ranks) (rank_checks dir m goals lower ranks s (slice_index policy s))
  ranks_tell dir nonneg =
      tells_if (Refutes dir m goals lower upper policy ranks) (ends goals lower s) (rank_check ranks s ∷ []) (fall_checks dir m lower ranks s (slice_index policy s))
      (λ e.
      tells_one (Refutes dir m goals lower upper policy ranks) (rank_check ranks s)
      (λ wrong. (lower_column, λ says. refuted (slice_index ranks s ≡ 0) _ (λ h w. ap Some (eq-eqb (slice_index ranks s) 0 h)) wrong (says l (end_of goals lower s nonneg e)))))
      (λ e. falls_tell dir (or-left_false (is_marked goals s) _ e) (lt_of_test 0ℚ (value_at lower s) (above (lt_ℚ 0ℚ (value_at lower s)) (or-right_false (is_marked goals s) _ e))))
    where
      above : (b : Bool) → not b ≡ false → b ≡ true
      above true e = refl
      above false e = absurd (true≢false e)

  -- ---- all rules at a state

  state_tells : (dir : Dir) → Tells (Refutes dir m goals lower upper policy ranks) (bounds_at dir m goals lower upper ranks s (slice_index policy s))
  state_tells dir =
      let cover : List Check = cover_at dir m goals (covering dir lower upper) s in
      let follow : List Check = follow_at dir m goals (followed dir lower upper) s (slice_index policy s) in
      let rank : List Check = rank_checks dir m goals lower ranks s (slice_index policy s) in
      tells_first (Refutes dir m goals lower upper policy ranks) (choice_exists m s (slice_index policy s)) (cover ++ (follow ++ rank))
      (λ wrong. (lower_column, λ says. refuted (IsChoice m s (slice_index policy s)) _ (λ i w. ap Some (lt-ltb (slice_index policy s) (length (choices_at m s)) i)) wrong (says l refl)))
      (λ takes.
      tells_append (Refutes dir m goals lower upper policy ranks) cover (follow ++ rank) (cover_tells dir)
      (λ covers.
      tells_append (Refutes dir m goals lower upper policy ranks) follow rank (follow_tells dir (ltb-true (slice_index policy s) (length (choices_at m s)) (Some_same _ _ takes)))
      (λ follows. ranks_tell dir (lower_nonneg dir covers follows))))

pub reach_refuted : (dir : Dir) (m : Mdp) (goals : List Bool) (lower upper : List ℚ) (policy ranks : List ℕ) (fault : Fault) → IsMdp m
    → verdict_of (bounds_checks dir m goals lower upper policy ranks) ≡ No fault
    → IsFalseOfOne (λ side. ReachSays dir m goals lower upper policy ranks side fault.rule fault.state fault.choice)
reach_refuted dir m goals lower upper policy ranks fault known =
    tells_flat (Refutes dir m goals lower upper policy ranks) (λ s. bounds_at dir m goals lower upper ranks s (slice_index policy s)) (states_of m)
    (λ s l. state_tells m known goals lower upper policy ranks s l dir) fault
