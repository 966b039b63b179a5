-- No term of the check of a floor is past width, where its values and ranks are the answer to the query of the subsystem, and where the value at the
-- start was compared with the threshold: each sum is one of the check of that answer.
use Rattle.std.proofs.Common.{◌≡◌, ℕ, zero, suc, ◌<◌, inl, inr, ⊎_elim, Bool, true, false, not, ◌||◌, cond, List}
use Rattle.std.proofs.{Common.{[], ◌∷◌, ◌++◌, length, get_or, Option, Some, None, refl, sym, ◌∙◌, ap, subst, arith, pos}, lemmas.Bool.{cases_Bool}}
use Rattle.std.proofs.{lemmas.List.{get_or-map}, lemmas.List.Elements.{recursion_from_All}}
use Rattle.std.specs.{List.{Any}, Option.{IsSome}}
use Rattle.mdp_math.specs.{Rational.{ℚ, of_int, lt_ℚ}, Written.{◌>>=◌, written_add, written_mul}}
use Rattle.mdp_math.proofs.Order.{0ℚ, 1ℚ, ≤ℚ_antisymm, ≤ℚ_or_gt}
use Rattle.mdp_spec.specs.{Mdp.{Entry, Choice, Mdp, no_choice, states_of, choices_at, row_at, value_at}, Row.{IsMdp}, Rules.{MeetsReachMin}}
use Rattle.mdp_spec.specs.{Sub.{loop_at, sub_of}, Tree.{is_marked}, Written.{written_sum}}
use Rattle.mdp_spec.proofs.Subsystem.{stays-kept, sub-states, sub-stays, sub-loops, stays-row}
use Rattle.mdp_rows.specs.declared.dir.Dir.TheVariants.{Min}
use Rattle.mdp_farkas.specs.{Bellman.{stands, sum_stands, stands_at, bound_check, bound_checks}, Compare.{is_at_least}}
use Rattle.mdp_farkas.specs.{Reach.{value_checks, policy_check, rank_checks, reach_at, reach_checks, IsReach}, Upper.{goal_check}}
use Rattle.mdp_farkas.specs.Verdict.{InWidth, at_choices}
use Rattle.mdp_farkas.proofs.Holds.{Each, each_append, each_left, each_flat, each_flat_at, each_map, each_map_at, each_if, each_if_false}
use Rattle.mdp_subsystem_rules.specs.FloorChecks as floor
use Rattle.mdp_subsystem_rules.specs.FloorChecks.{spread_values, line_value, line_rank, line_values, cover_check, rank_check, fall_check, line_checks, checks_of_line, each_line, start_check, floor_checks}
use Rattle.mdp_subsystem_rules.specs.{FlowChecks.{kept_check}, Kept.{kept_marks}, Listed.{listed, values_at, ranks_at}}
use Rattle.mdp_subsystem_rules.proofs.{Counted.{line_values-at}, Floors.{as_kept, as_neither}, Kept.{listed-at, spread-at}}
use Rattle.mdp_subsystem_rules.proofs.Listed.{listed-in_range, is_listed-listed, kept_marks-listed, looked_up-map}

-- a loop leads to no smaller rank
loop_falls : (names : List (List ℕ)) (s : ℕ) (rank : ℕ → ℕ) → Any (λ y. rank y.target < rank s) (Choice.row (get_or (loop_at names s ∷ []) 0 no_choice)) → ⊥
loop_falls names s rank any = loop_by any.0 any.1 any.2 any.3 any.4
  where
    loop_by : (k : ℕ) (y : Entry) → k < 1 → get_or (record { target = s; prob = of_int (pos 1) } ∷ []) k y ≡ y → rank y.target < rank s → ⊥
    loop_by zero y l e q = let same : rank y.target ≡ rank s = ap (λ (x : Entry). rank x.target) (sym e) in omega (arith, q, same)
    loop_by (suc k) y l e q = absurd (omega arith)

-- a written sum reads values at the targets of its row alone
written_sum-same : (n : ℕ) (z w : List ℚ) (acc : ℚ) (row : List Entry) → ((t : ℕ) → t < n → value_at z t ≡ value_at w t) → ((i : ℕ) (d : Entry) → i < length row → (get_or row i d).target < n)
    → written_sum z acc row ≡ written_sum w acc row
written_sum-same n z w acc [] same inside = refl
written_sum-same n z w acc (x ∷ row) same inside =
    ap (λ (v : ℚ). written_mul x.prob v >>= (λ term. written_add acc term >>= (λ sum. written_sum z sum row))) (same x.target (inside 0 x (omega arith)))
    ∙ by_term (λ sum. written_sum-same n z w sum row same (λ i d l. inside (suc i) d (omega arith))) (written_mul x.prob (value_at w x.target))
  where
    by_sum : ((sum : ℚ) → written_sum z sum row ≡ written_sum w sum row) → (o : Option ℚ) → (o >>= (λ sum. written_sum z sum row)) ≡ (o >>= (λ sum. written_sum w sum row))
    by_sum rest None = refl
    by_sum rest (Some sum) = rest sum

    by_term : ((sum : ℚ) → written_sum z sum row ≡ written_sum w sum row) → (o : Option ℚ)
        → (o >>= (λ term. written_add acc term >>= (λ sum. written_sum z sum row))) ≡ (o >>= (λ term. written_add acc term >>= (λ sum. written_sum w sum row)))
    by_term rest None = refl
    by_term rest (Some term) = by_sum rest (written_add acc term)

module _ (m : Mdp) (goals kept : List Bool) (z : List ℚ) (policy ranks : List ℕ) (start : ℕ) (threshold : ℚ) (known_ : IsMdp m) (each : length kept ≡ states_of m) (h : start < states_of m)
    (no_goal : (s : ℕ) → s < states_of m → is_marked kept s ≡ true → is_marked goals s ≡ false)
    (is : IsReach Min (sub_of m goals kept) goals z policy ranks) (told : IsSome (is_at_least (value_at z start) threshold)) where
  abbrev sub : Mdp
  sub = sub_of m goals kept

  abbrev r : MeetsReachMin sub goals z policy ranks
  r = is.rules

  abbrev states : List ℕ
  states = listed (states_of m) kept

  abbrev values : List ℚ
  values = values_at z states

  abbrev steps : List ℕ
  steps = ranks_at ranks states

  abbrev counts : List ℚ
  counts = line_values m goals states values

  inside_back : (s : ℕ) → s < states_of m → s < states_of sub
  inside_back s l = subst (λ (n : ℕ). s < n) (sym (sub-states m goals kept)) l

  -- ---- what a state counts as is its value

  -- a state that is left with its loop has the value 0
  lost_value : (s : ℕ) → s < states_of m → is_marked goals s ≡ false → is_marked kept s ≡ false → value_at z s ≡ 0ℚ
  lost_value s l g k = elim (≤ℚ_or_gt (value_at z s) 0ℚ) as (λ _. value_at z s ≡ 0ℚ) [
    | inl le ↦ ≤ℚ_antisymm (value_at z s) 0ℚ le (r.probabilities.at_least_zero s (inside_back s l))
    | inr p ↦
        let loops = sub-loops m goals kept s l (ap (λ (b : Bool). b || is_marked kept s) g ∙ k) in
        absurd (loop_falls m.names s (λ v. get_or ranks v 0)
        (subst (λ (cs : List Choice). Any (λ y. get_or ranks y.target 0 < get_or ranks s 0) (Choice.row (get_or cs 0 no_choice))) loops
        (r.falls s 0 (inside_back s l) g p (subst (λ (cs : List Choice). 0 < length cs) (sym loops) (omega arith)))))
  ]

  marks_same : (s : ℕ) → is_marked (kept_marks (states_of m) states) s ≡ is_marked kept s
  marks_same s = ap (λ (marks : List Bool). is_marked marks s) (kept_marks-listed (states_of m) kept each)

  line_value-is : (s : ℕ) → s < states_of m → line_value m goals states values s ≡ value_at z s
  line_value-is s l =
      ⊎_elim
      (λ g. ap (λ (b : Bool). cond b 1ℚ (cond (is_marked (kept_marks (states_of m) states) s) (value_at (spread_values m states values) s) 0ℚ)) g ∙ sym (r.probabilities.at_goal s (inside_back s l) g))
      (λ g. ⊎_elim
      (λ k. as_kept (is_marked goals s) (is_marked (kept_marks (states_of m) states) s) 1ℚ (value_at (spread_values m states values) s) 0ℚ g (marks_same s ∙ k)
      ∙ spread-at (states_of m) states values 0ℚ 0ℚ s l ∙ looked_up-map (value_at z) 0ℚ states s (is_listed-listed (states_of m) kept s l ∙ k))
      (λ k. as_neither (is_marked goals s) (is_marked (kept_marks (states_of m) states) s) 1ℚ (value_at (spread_values m states values) s) 0ℚ g (marks_same s ∙ k) ∙ sym (lost_value s l g k))
      (cases_Bool (is_marked kept s)))
      (cases_Bool (is_marked goals s))

  count-is : (s : ℕ) → s < states_of m → value_at counts s ≡ value_at z s
  count-is s l = line_values-at m goals states values s l ∙ line_value-is s l

  -- ---- the checks of the query's answer

  all_told : Each InWidth (reach_checks Min sub goals z policy ranks)
  all_told = recursion_from_All InWidth (reach_checks Min sub goals z policy ranks) is.in_width

  at_state : (s : ℕ) → s < states_of m → Each InWidth (reach_at Min sub goals z ranks s (get_or policy s 0))
  at_state s l = each_flat_at InWidth (λ s. reach_at Min sub goals z ranks s (get_or policy s 0)) (states_of sub) s all_told (inside_back s l)

  bound_told : (s c : ℕ) → s < states_of m → is_marked kept s ≡ true → c < length (choices_at m s) → IsSome (stands_at Min sub z s c)
  bound_told s c l k i =
      let values_told = each_left InWidth (value_checks Min sub goals z s (get_or policy s 0)) (rank_checks Min sub goals z ranks s (get_or policy s 0)) (at_state s l).1.1.1 in
      let sums_told = each_if_false InWidth (is_marked goals s) (goal_check z s ∷ []) (bound_checks Min sub z s ++ policy_check Min sub z s (get_or policy s 0) ∷ []) (no_goal s l k) values_told in
      each_map_at InWidth (bound_check Min sub z s) (length (choices_at sub s)) c
      (each_left InWidth (bound_checks Min sub z s) (policy_check Min sub z s (get_or policy s 0) ∷ []) sums_told)
      (subst (λ (cs : List Choice). c < length cs) (sym (sub-stays m goals kept s l (stays-kept goals kept s k))) i)

  -- ---- the checks of the floor

  cover_told : (s c : ℕ) → s < states_of m → is_marked kept s ≡ true → c < length (choices_at m s) → IsSome (sum_stands Min (value_at z s) counts 0ℚ (row_at m s c))
  cover_told s c l k i =
      subst (λ (o : Option ℚ). IsSome (o >>= stands Min (value_at z s)))
      (ap (written_sum z 0ℚ) (stays-row m goals kept s c l (stays-kept goals kept s k))
      ∙ sym (written_sum-same (states_of m) counts z 0ℚ (row_at m s c) count-is (known_.row s c l i).in_range))
      (bound_told s c l k i)

  line_by : (s : ℕ) (v : ℚ) (rank : ℕ) → s < states_of m → is_marked kept s ≡ true → value_at z s ≡ v → Each InWidth (line_checks m goals states values steps s v rank)
  line_by s v rank l k e = subst (λ (v : ℚ). Each InWidth (line_checks m goals states values steps s v rank)) e (
    (at_state s l).1.0,
    (
      (at_state s l).1.1.0,
      each_append InWidth (floor.cover_checks m goals counts s (value_at z s)) (floor.rank_checks m goals (line_rank m goals states steps) s (value_at z s) rank ++ kept_check goals s ∷ [])
          (each_if InWidth (is_marked goals s) [] (at_choices m s (cover_check m counts s (value_at z s))) (λ g. tt)
          (λ g. each_map InWidth (cover_check m counts s (value_at z s)) (length (choices_at m s)) (λ c i. cover_told s c l k i)))
          (each_append InWidth (floor.rank_checks m goals (line_rank m goals states steps) s (value_at z s) rank) (kept_check goals s ∷ [])
          (each_if InWidth (is_marked goals s || not (lt_ℚ 0ℚ (value_at z s))) (rank_check s rank ∷ []) (at_choices m s (fall_check m (line_rank m goals states steps) s rank)) (λ g. (refl, tt))
          (λ g. each_map InWidth (fall_check m (line_rank m goals states steps) s rank) (length (choices_at m s)) (λ c i. refl)))
          (refl, tt)),
    ),
  )

  line_told : (i : ℕ) → i < length states → Each InWidth (checks_of_line m goals states values steps i)
  line_told i l =
      let s = get_or states i 0 in
      let inside = listed-in_range (states_of m) kept i 0 l in
      line_by s (value_at values i) (get_or steps i 0) inside (sym (is_listed-listed (states_of m) kept s inside) ∙ listed-at states i l) (sym (get_or-map (value_at z) states i 0 0ℚ l))

  pub floor_in_width : Each InWidth (floor_checks m goals start threshold states values steps)
  floor_in_width =
      each_append InWidth (each_line m goals states values steps) (start_check m goals start threshold states values ∷ [])
      (each_flat InWidth (checks_of_line m goals states values steps) (length states) line_told)
      (subst (λ (v : ℚ). IsSome (is_at_least v threshold)) (sym (line_value-is start h)) told, tt)
