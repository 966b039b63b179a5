-- A model of four states with a floor and a flow, computed. State 0 goes to 1 or to 3 with 1/2 each, or by its second choice to 1; state 1 goes
-- back to 0 with 1/2 and to 2, the goal, with 1/2; 3 fails.
use Rattle.std.proofs.Common.{◌≡◌, ℕ, zero, suc, ◌<◌, Bool, true, false, true≢false, T, get_or, List, [], ◌∷◌, length, refl, sym, subst, pos, arith}
use Rattle.std.proofs.lemmas.List.Elements.{All-from_recursion}
use Rattle.std.specs.List.{Any}
use Rattle.mdp_math.specs.{Gcd.{gcd, gcd_with_fuel}, Rational.{ℚ, of_int, ratio, le_ℚ, lt_ℚ, ◌+ℚ◌, ◌*ℚ◌, ◌≤ℚ◌, ◌<ℚ◌}}
use Rattle.mdp_math.proofs.Order.{0ℚ, <ℚ_irrefl, clash_ℚ}
use Rattle.mdp_spec.specs.{Mdp.{states_of, choices_at, row_at, value_at}, Tree.{is_marked}, Unit.{unit_of}, Hit.{hit}, Sub.{sub_of, policy_on}}
use Rattle.mdp_spec.proofs.Small.{entry, half, one, back, back_goals}
use Rattle.mdp_subsystem_rules.specs.{Kept.{kept_marks, spread}, Listed.{listed, marks_at, values_at, ranks_at}, Visits.{visit_flows}, Policy.{hit_on}}
use Rattle.mdp_subsystem_rules.specs.Floor.{counted_value, counted_rank, counted_sum, MeetsFloor}
use Rattle.mdp_subsystem_rules.specs.Flow.{IsFlow, MeetsFlow, outflow, inflow, goal_flow, flow_total, source, goal_source}
use Rattle.mdp_claims.specs.declared.subsystem.Flow.{Flow}

-- 0 and 1 are kept
abbrev kept : List Bool
kept = true ∷ true ∷ false ∷ false ∷ []

past : (s : ℕ) → suc (suc (suc (suc s))) < 4 → ⊥
past s h = omega arith

kept_no_goal : (s : ℕ) → s < states_of back → is_marked kept s ≡ true → is_marked back_goals s ≡ false
kept_no_goal zero h k = refl
kept_no_goal (suc zero) h k = refl
kept_no_goal (suc (suc zero)) h k = absurd (true≢false (sym k))
kept_no_goal (suc (suc (suc zero))) h k = refl
kept_no_goal (suc (suc (suc (suc s)))) h k = absurd (past s h)

-- ---- a floor: the least probabilities are 1/3 at 0 and 2/3 at 1

abbrev values : List ℚ
values = ratio (pos 1) 3 ∷ ratio (pos 2) 3 ∷ []

abbrev ranks : List ℕ
ranks = 2 ∷ 1 ∷ []

-- by the first choice of state 0: half of what state 1 counts as, and nothing from state 3
first_sum : counted_sum back_goals kept values (row_at back 0 0) ≡ ratio (pos 1) 3
unfolding gcd gcd_with_fuel ratio of_int ◌+ℚ◌ ◌*ℚ◌
first_sum = refl

-- from state 1 half of what state 0 counts as, and 1/2 from the goal
second_sum : counted_sum back_goals kept values (row_at back 1 0) ≡ ratio (pos 2) 3
unfolding gcd gcd_with_fuel ratio of_int ◌+ℚ◌ ◌*ℚ◌
second_sum = refl

at_least_zero : (s : ℕ) → s < states_of back → is_marked kept s ≡ true → of_int (pos 0) ≤ℚ value_at values s
unfolding gcd gcd_with_fuel ratio of_int le_ℚ
at_least_zero zero h k = record { le = tt }
at_least_zero (suc zero) h k = record { le = tt }
at_least_zero (suc (suc s)) h k = record { le = tt }

at_most_one : (s : ℕ) → s < states_of back → is_marked kept s ≡ true → value_at values s ≤ℚ of_int (pos 1)
unfolding gcd gcd_with_fuel ratio of_int le_ℚ
at_most_one zero h k = record { le = tt }
at_most_one (suc zero) h k = record { le = tt }
at_most_one (suc (suc s)) h k = record { le = tt }

covered : (s c : ℕ) → s < states_of back → is_marked kept s ≡ true → c < length (choices_at back s) → value_at values s ≤ℚ counted_sum back_goals kept values (row_at back s c)
unfolding gcd gcd_with_fuel ratio of_int le_ℚ ◌+ℚ◌ ◌*ℚ◌
covered zero zero h k l = record { le = tt }
covered zero (suc zero) h k l = record { le = tt }
covered zero (suc (suc c)) h k l = absurd (omega arith)
covered (suc zero) zero h k l = record { le = tt }
covered (suc zero) (suc c) h k l = absurd (omega arith)
covered (suc (suc zero)) c h k l = absurd (true≢false (sym k))
covered (suc (suc (suc zero))) c h k l = absurd (true≢false (sym k))
covered (suc (suc (suc (suc s)))) c h k l = absurd (past s h)

above_zero : (x : ℚ) → 0ℚ <ℚ x → x ≡ 0ℚ → ⊥
above_zero x p e = <ℚ_irrefl 0ℚ (subst (λ (y : ℚ). 0ℚ <ℚ y) e p)

ends : (s : ℕ) → s < states_of back → is_marked kept s ≡ true → value_at values s ≡ of_int (pos 0) → get_or ranks s 0 ≡ 0
unfolding gcd gcd_with_fuel ratio of_int lt_ℚ
ends zero h k e = absurd (above_zero (ratio (pos 1) 3) (record { lt = tt }) e)
ends (suc zero) h k e = absurd (above_zero (ratio (pos 2) 3) (record { lt = tt }) e)
ends (suc (suc s)) h k e = refl

falls : (s c : ℕ) → s < states_of back → is_marked kept s ≡ true → of_int (pos 0) <ℚ value_at values s → c < length (choices_at back s)
    → Any (λ y. counted_rank back_goals kept ranks y.target < get_or ranks s 0) (row_at back s c)
falls zero zero h k p l = (0, entry 1 half, omega arith, refl, omega arith)
falls zero (suc zero) h k p l = (0, entry 1 one, omega arith, refl, omega arith)
falls zero (suc (suc c)) h k p l = absurd (omega arith)
falls (suc zero) zero h k p l = (1, entry 2 half, omega arith, refl, omega arith)
falls (suc zero) (suc c) h k p l = absurd (omega arith)
falls (suc (suc zero)) c h k p l = absurd (true≢false (sym k))
falls (suc (suc (suc zero))) c h k p l = absurd (true≢false (sym k))
falls (suc (suc (suc (suc s)))) c h k p l = absurd (past s h)

reached : ratio (pos 1) 3 ≤ℚ counted_value back_goals kept values 0
unfolding gcd gcd_with_fuel ratio of_int le_ℚ
reached = record { le = tt }

-- so each policy meets the goal with 1/3 at least, although only 0, 1 and the goal stay as they are
floor_four : MeetsFloor back back_goals kept values ranks 0 (ratio (pos 1) 3)
floor_four = record {
  no_goal = kept_no_goal;
  at_least_zero = at_least_zero;
  at_most_one = at_most_one;
  covered = covered;
  ends = ends;
  falls = falls;
  reached = reached;
}

-- ---- a flow: by the second choice of state 0 both states are left twice, and the goal is met surely

abbrev flow : ℕ → ℕ → ℚ → Flow
flow s c a = record { state = s; choice = c; amount = a }

abbrev flows : List Flow
flows = flow 0 1 (of_int (pos 2)) ∷ flow 1 0 (of_int (pos 2)) ∷ []

-- state 0 gets 1 from outside and half of what leaves state 1; state 1 gets all that leaves state 0
inflow-zero : inflow back flows 0 ≡ one
unfolding gcd gcd_with_fuel ratio of_int ◌+ℚ◌ ◌*ℚ◌
inflow-zero = refl

inflow-one : inflow back flows 1 ≡ of_int (pos 2)
unfolding gcd gcd_with_fuel ratio of_int ◌+ℚ◌ ◌*ℚ◌
inflow-one = refl

goal_flow-back : goal_flow back back_goals flows ≡ one
unfolding gcd gcd_with_fuel ratio of_int ◌+ℚ◌ ◌*ℚ◌
goal_flow-back = refl

flow_total-back : flow_total flows ≡ of_int (pos 4)
unfolding gcd gcd_with_fuel ratio of_int ◌+ℚ◌
flow_total-back = refl

positive : of_int (pos 0) <ℚ of_int (pos 2)
unfolding gcd gcd_with_fuel ratio of_int lt_ℚ
positive = record { lt = tt }

balanced : (s : ℕ) → s < states_of back → is_marked kept s ≡ true → outflow flows s ≤ℚ source 0 s +ℚ inflow back flows s
unfolding gcd gcd_with_fuel ratio of_int le_ℚ ◌+ℚ◌ ◌*ℚ◌
balanced zero h k = record { le = tt }
balanced (suc zero) h k = record { le = tt }
balanced (suc (suc zero)) h k = absurd (true≢false (sym k))
balanced (suc (suc (suc zero))) h k = absurd (true≢false (sym k))
balanced (suc (suc (suc (suc s)))) h k = absurd (past s h)

arrives : of_int (pos 1) ≤ℚ goal_source back_goals 0 +ℚ goal_flow back back_goals flows
unfolding gcd gcd_with_fuel ratio of_int le_ℚ ◌+ℚ◌ ◌*ℚ◌
arrives = record { le = tt }

flow_four : MeetsFlow back back_goals kept flows 0 one
flow_four = record {
  no_goal = kept_no_goal;
  each = All-from_recursion (IsFlow back kept) flows (record { keeps = refl; choice = omega arith; positive = positive }, (record { keeps = refl; choice = omega arith; positive = positive }, tt));
  balanced = balanced;
  reached = arrives;
}

-- more can't flow: with 3 out of state 0 and out of state 1, state 0 lets out more than 1 and half of 3
abbrev too_much : List Flow
too_much = flow 0 1 (of_int (pos 3)) ∷ flow 1 0 (of_int (pos 3)) ∷ []

too_much-out : lt_ℚ (source 0 0 +ℚ inflow back too_much 0) (outflow too_much 0) ≡ true
unfolding gcd gcd_with_fuel ratio of_int lt_ℚ ◌+ℚ◌ ◌*ℚ◌
too_much-out = refl

too_much_fails : MeetsFlow back back_goals kept too_much 0 one → ⊥
too_much_fails f =
    clash_ℚ (source 0 0 +ℚ inflow back too_much 0) (outflow too_much 0) (record { lt = subst T (sym too_much-out) tt }) (f.balanced 0 (omega arith) refl)

-- ---- the same from the certificate's lists, and from expected visits

kept_marks-back : kept_marks 4 (0 ∷ 1 ∷ []) ≡ kept
kept_marks-back = refl

spread-back : spread {A = ℕ} 4 (1 ∷ 3 ∷ []) (7 ∷ 9 ∷ []) 0 ≡ 0 ∷ 7 ∷ 0 ∷ 9 ∷ []
spread-back = refl

visit_flows-back : visit_flows 4 (1 ∷ 0 ∷ 0 ∷ 0 ∷ []) (of_int (pos 2) ∷ of_int (pos 2) ∷ of_int (pos 0) ∷ of_int (pos 0) ∷ []) ≡ flows
unfolding gcd gcd_with_fuel ratio of_int lt_ℚ
visit_flows-back = refl

-- ---- what is listed of marks, values and ranks per state

abbrev second_and_last : List Bool
second_and_last = false ∷ true ∷ false ∷ true ∷ []

listed-back : listed 4 second_and_last ≡ 1 ∷ 3 ∷ []
listed-back = refl

-- a mark past the last state lists nothing, nor does a state without a mark
listed-past : listed 3 second_and_last ≡ 1 ∷ []
listed-past = refl

listed-none : listed 4 [] ≡ []
listed-none = refl

listed-marks : kept_marks 4 (listed 4 second_and_last) ≡ second_and_last
listed-marks = refl

wide-back : marks_at (true ∷ false ∷ false ∷ true ∷ []) (1 ∷ 3 ∷ []) ≡ false ∷ true ∷ []
wide-back = refl

values-back : values_at (one ∷ half ∷ one ∷ one ∷ []) (1 ∷ 3 ∷ []) ≡ half ∷ one ∷ []
values-back = refl

ranks-back : ranks_at (5 ∷ 6 ∷ 7 ∷ 8 ∷ []) (1 ∷ 3 ∷ []) ≡ 6 ∷ 8 ∷ []
ranks-back = refl

-- a policy on the subsystem that keeps state 1 alone: state 0 is left with choice 0, its loop
policy_on-back : policy_on back_goals (false ∷ true ∷ false ∷ false ∷ []) (1 ∷ 0 ∷ 0 ∷ 0 ∷ []) ≡ 0 ∷ 0 ∷ 0 ∷ 0 ∷ []
policy_on-back = refl

-- by the second choice the goal is met in two steps with 1/2, and never where state 0 isn't kept
hit_on-back : hit_on back back_goals kept (1 ∷ 0 ∷ 0 ∷ 0 ∷ []) 2 0 ≡ half
unfolding gcd gcd_with_fuel ratio of_int unit_of hit sub_of
hit_on-back = refl

hit_on-lost : hit_on back back_goals (false ∷ true ∷ false ∷ false ∷ []) (0 ∷ 0 ∷ 0 ∷ 0 ∷ []) 2 0 ≡ of_int (pos 0)
unfolding gcd gcd_with_fuel ratio of_int unit_of hit sub_of
hit_on-lost = refl
