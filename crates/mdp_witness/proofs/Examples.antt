-- The query of a witness on a small model, computed from the answer to the query of the model on. State 0 goes to 1 and to the goal 3 with 1/2 each, or by
-- its second choice to 2; states 1 and 2 go to 3 and to 4 with 1/2 each; states 3 and 4 are left nowhere. From 0 the goal is reached with 3/4 at most
-- and 1/2 at least.
use Rattle.std.proofs.Common.{◌≡◌, true, false, [], ◌∷◌, Some, None, Result, Ok, Err, refl, ap, pos}
use Rattle.mdp_math.specs.{Gcd.{gcd, gcd_with_fuel}, Rational.{ℚ, of_int, ratio, lt_ℚ, ◌+ℚ◌, ◌*ℚ◌, neg_ℚ, inv_ℚ}}
use Rattle.mdp_math.specs.Written.{written_add, written_mul, written_compare, narrow, narrow_ℚ}
use Rattle.mdp_spec.proofs.Small.{half, nought, one, three_quarters}
use Rattle.mdp_elim.specs.{Elimination.{divided_rest, plus_equation, eliminated, evaluated}, System.{equation_of}}
use Rattle.mdp_wide.specs.declared.too_wide.Part.TheVariants as part
use Rattle.mdp_wide.specs.declared.too_wide.Kind.TheVariants.{Evaluate, Compare, Check}
use Rattle.mdp_rows.specs.declared.dir.Dir.TheVariants.{Max}
use Rattle.mdp_claims.specs.declared.verdict.Verdict.TheVariants.{Yes, No, Wide}
use Rattle.mdp_claims.specs.declared.rule.Rule.TheVariants.{FlowsBalance, FlowsReachGoals, StateIsKept, ValueOnEachChoice}
use Rattle.mdp_reach.specs.Query.{Answer}
use Rattle.mdp_witness.specs.{Evaluation.{Visited, visited, visited_value}, Trial.{trial_set, trial_of, is_wide}}
use Rattle.mdp_witness.specs.Query.{PlainSubsystem, flow, floor, Refusal, below, too_wide, visiting, in_floor, flow_of, floor_of, verdict_on, FlowHeld, FloorHeld}
use Rattle.mdp_witness.specs.{Query.{AfterComparison, FromFirst}, Shown.{kept_of, kept_in, HasShape, Holds}}
use Rattle.mdp_witness.proofs.TrialExamples.{five, goals, greatest, least, best, worst, two_states, three_states, start_alone, no_states, first_max, left}

-- the answers to the queries of the greatest and of the least probability
abbrev at_most : Answer
at_most = record { values = greatest; choices = best; ranks = 1 ∷ 1 ∷ 1 ∷ 0 ∷ 0 ∷ [] }

abbrev at_least : Answer
at_least = record { values = least; choices = worst; ranks = 2 ∷ 1 ∷ 1 ∷ 0 ∷ 0 ∷ [] }

abbrev end : PlainSubsystem → Result PlainSubsystem Refusal
end found = Ok found

-- ---- the greatest probability at the threshold 1/2: the start alone, which the policy leaves once

abbrev once : Visited
once = record { visits = one ∷ nought ∷ nought ∷ nought ∷ nought ∷ []; value = half }

abbrev from_start : PlainSubsystem
from_start = flow (0 ∷ []) (false ∷ []) (record { state = 0; choice = 0; amount = one } ∷ [])

-- flows of amount 0 are left out
start_flow : flow_of five best start_alone no_states once ≡ from_start
unfolding gcd gcd_with_fuel ratio of_int lt_ℚ
start_flow = refl

start_holds : verdict_on five goals 0 half from_start ≡ Yes
unfolding gcd gcd_with_fuel ratio of_int lt_ℚ ◌+ℚ◌ ◌*ℚ◌ narrow narrow_ℚ written_add written_mul written_compare
start_holds = refl

start_found : FromFirst five goals 0 half Max at_most (end from_start)
unfolding equation_of eliminated divided_rest plus_equation evaluated written_add written_mul written_compare narrow narrow_ℚ ◌+ℚ◌ ◌*ℚ◌ neg_ℚ inv_ℚ lt_ℚ ratio of_int gcd gcd_with_fuel
start_found = (two_states, first_max, record { kept = start_alone; wide = no_states; last = once; left = left; held = refl })

-- in the trial of the start nothing is past width, so that it isn't marked as wide
start_in_width : is_wide (trial_of visited_value half (visited five goals best 0 (trial_set two_states start_alone 0))) ≡ false
unfolding gcd gcd_with_fuel ratio of_int narrow narrow_ℚ written_compare
start_in_width = refl

-- with an amount of 0, or with the goal as a kept state, or at a greater threshold, it would be refused
nothing_flows : verdict_on five goals 0 half (flow (0 ∷ []) (false ∷ []) (record { state = 0; choice = 0; amount = nought } ∷ [])) ≡ No (record { rule = StateIsKept; state = Some 0; choice = Some 0 })
unfolding gcd gcd_with_fuel ratio of_int lt_ℚ ◌+ℚ◌ ◌*ℚ◌ narrow narrow_ℚ written_add written_mul written_compare
nothing_flows = refl

goal_kept : verdict_on five goals 0 half (flow (0 ∷ 3 ∷ []) (false ∷ false ∷ []) (record { state = 0; choice = 0; amount = one } ∷ [])) ≡ No (record { rule = StateIsKept; state = Some 3; choice = None })
unfolding gcd gcd_with_fuel ratio of_int lt_ℚ ◌+ℚ◌ ◌*ℚ◌ narrow narrow_ℚ written_add written_mul written_compare
goal_kept = refl

less_than_asked : verdict_on five goals 0 three_quarters from_start ≡ No (record { rule = FlowsReachGoals; state = None; choice = None })
unfolding gcd gcd_with_fuel ratio of_int lt_ℚ ◌+ℚ◌ ◌*ℚ◌ narrow narrow_ℚ written_add written_mul written_compare
less_than_asked = refl

-- ---- the least probability at 1/2: the three states behind which the goal can't be avoided

abbrev all_three : PlainSubsystem
all_three = floor (0 ∷ 1 ∷ 2 ∷ []) (false ∷ false ∷ false ∷ []) (half ∷ half ∷ half ∷ []) (2 ∷ 1 ∷ 1 ∷ [])

three_floor : floor_of five three_states no_states at_least ≡ all_three
three_floor = refl

three_hold : verdict_on five goals 0 half all_three ≡ Yes
unfolding gcd gcd_with_fuel ratio of_int lt_ℚ ◌+ℚ◌ ◌*ℚ◌ narrow narrow_ℚ written_add written_mul written_compare
three_hold = refl

-- without state 2, to which a policy may go, these values are too great
two_alone : verdict_on five goals 0 half (floor (0 ∷ 1 ∷ []) (false ∷ false ∷ []) (half ∷ half ∷ []) (2 ∷ 1 ∷ [])) ≡ No (record { rule = ValueOnEachChoice; state = Some 0; choice = Some 1 })
unfolding gcd gcd_with_fuel ratio of_int lt_ℚ ◌+ℚ◌ ◌*ℚ◌ narrow narrow_ℚ written_add written_mul written_compare
two_alone = refl

-- ---- what is read of a subsystem

states_kept : kept_of all_three ≡ 0 ∷ 1 ∷ 2 ∷ []
states_kept = refl

marks_kept : kept_in five from_start ≡ start_alone
marks_kept = refl

-- a floor is no certificate of the greatest probability
other_direction : HasShape Max five all_three → ⊥
other_direction h = h

no_floor_of_max : Holds Max five goals 0 half all_three → ⊥
no_floor_of_max h = h

-- ---- where there is none

-- 3/4 is below 7/8
abbrev no_subsystem : Refusal → Result PlainSubsystem Refusal
no_subsystem why = Err why

is_below : AfterComparison five goals 0 (ratio (pos 7) 8) Max 0 at_most (Some false) (no_subsystem (below three_quarters))
is_below = refl

not_the_threshold : AfterComparison five goals 0 (ratio (pos 7) 8) Max 0 at_most (Some false) (no_subsystem (below (ratio (pos 7) 8))) → ⊥
unfolding gcd gcd_with_fuel ratio of_int lt_ℚ
not_the_threshold h = let e : three_quarters ≡ ratio (pos 7) 8 = cc in let f : true ≡ false = ap (λ (x : ℚ). lt_ℚ x (ratio (pos 7) 8)) e in cc

-- terms past width: in the comparison of the value at 0 in round 2, in the visits of state 1, in the check at the flow of state 0, and in the query of a subsystem
wide_comparison :
    AfterComparison five goals 0 half Max 2 at_most None (no_subsystem (too_wide (record { part = part.Whole; number = 2; policy = best; kind = Compare; state = Some 0; choice = None })))
wide_comparison = refl

wide_visits : visiting worst 0 ≡ (record { part = part.Flow; number = 0; policy = worst; kind = Evaluate; state = Some 0; choice = Some 1 })
wide_visits = refl

wide_check : FlowHeld best from_start (Wide (Some 0) (Some 0)) (no_subsystem (too_wide (record { part = part.Flow; number = 0; policy = best; kind = Check; state = Some 0; choice = Some 0 })))
wide_check = refl

wide_query :
    in_floor (record { part = part.Whole; number = 1; policy = worst; kind = Compare; state = Some 0; choice = Some 1 })
    ≡ (record { part = part.Floor; number = 1; policy = worst; kind = Compare; state = Some 0; choice = Some 1 })
wide_query = refl

-- a certificate that a rule refuses is no end of the query, and neither is a term past width in the check of a floor
no_end : (r : Result PlainSubsystem Refusal) → FlowHeld best from_start (No (record { rule = FlowsBalance; state = Some 0; choice = None })) r → ⊥
no_end r h = h

no_wide_floor : (r : Result PlainSubsystem Refusal) → FloorHeld all_three (Wide (Some 0) None) r → ⊥
no_wide_floor r h = h
