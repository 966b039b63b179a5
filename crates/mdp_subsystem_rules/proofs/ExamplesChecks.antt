-- Verdicts on certificates, computed. The model has four states: state 0 goes to 1 or to 3 with 1/2 each, or by its second choice to 1; state 1 goes
-- back to 0 with 1/2 and to 2, the goal, with 1/2; state 3 is left nowhere.
use Rattle.std.proofs.Common.{ℕ, ◌+◌, ◌^◌, inr, Bool, true, false, true≢false, List, [], ◌∷◌, refl, sym, pos, negsuc, Option, Some, None, arith}
use Rattle.mdp_math.specs.{Gcd.{gcd, gcd_with_fuel}, Rational.{ℚ, of_int, ratio, lt_ℚ, ◌+ℚ◌, ◌*ℚ◌}}
use Rattle.mdp_math.specs.Written.{narrow, narrow_ℚ, written_add, written_mul, written_compare}
use Rattle.mdp_math.proofs.Tables.{AreEqual}
use Rattle.mdp_spec.proofs.Small.{choice, half, nought, one, state, third, two, two_thirds, back, back_goals}
use Rattle.mdp_farkas.specs.Verdict.{verdict_of}
use Rattle.mdp_claims.specs.{declared.verdict.Verdict.{Verdict}, declared.verdict.Verdict.TheVariants.{Yes, No, Wide}, declared.subsystem.Flow.{Flow}}
use Rattle.mdp_claims.specs.declared.rule.Rule.TheVariants.{ChoiceExists, FlowsBalance, FlowsReachGoals, Probability, RankFalls, RankZero}
use Rattle.mdp_claims.specs.{declared.rule.Rule.TheVariants.{StartReachesThreshold, StateIsKept, ValueOnEachChoice}, declared.rule.Rule.{Rule}}
use Rattle.mdp_subsystem_rules.specs.{FloorChecks.{floor_checks}, FlowChecks.{flow_checks}, Says.{FlowSays, FloorSays}}

-- half of it is past width
abbrev tiny : ℚ
tiny = ratio (pos 1) (2 ^ 126 + 1)

abbrev flow : ℕ → ℕ → ℚ → Flow
flow s c a = record { state = s; choice = c; amount = a }

-- of a flow from this start with these kept states
abbrev flow_verdict : ℕ → ℚ → List ℕ → List Flow → Verdict
flow_verdict start threshold kept flows = verdict_of (flow_checks back back_goals start threshold kept flows)

-- of a floor
abbrev floor_verdict : ℕ → ℚ → List ℕ → List ℚ → List ℕ → Verdict
floor_verdict start threshold kept values ranks = verdict_of (floor_checks back back_goals start threshold kept values ranks)

abbrev fault : Rule → ℕ → Option ℕ → Verdict
fault rule state choice = No (record { rule = rule; state = Some state; choice = choice })

-- a rule that has no place
abbrev fault_of : Rule → Verdict
fault_of rule = No (record { rule = rule; state = None; choice = None })

-- ---- flows: by the second choice of state 0 both states are left twice, and the goal is met surely

abbrev both : List ℕ
both = 0 ∷ 1 ∷ []

abbrev sure : List Flow
sure = flow 0 1 two ∷ flow 1 0 two ∷ []

flow_verdicts : AreEqual (
    (flow_verdict 0 one both sure, Yes) ∷  -- reached
    -- some flow through the first choice of state 0: 1 of it leaves state 0 and 1/2 leaves state 1, of which 1/4 comes to the goal
    (flow_verdict 0 (ratio (pos 1) 4) both (flow 0 0 one ∷ flow 1 0 half ∷ []), Yes) ∷
    -- a threshold of 0 asks for nothing
    (flow_verdict 0 nought [] [], Yes) ∷
    -- a start that is a goal is there with 1
    (flow_verdict 2 one [] [], Yes) ∷
    -- and with no more
    (flow_verdict 2 two [] [], fault_of FlowsReachGoals) ∷
    -- from a state of value 0 nothing comes
    (flow_verdict 3 half (3 ∷ []) (flow 3 0 one ∷ []), fault_of FlowsReachGoals) ∷
    -- a goal may not be kept: this comes before the flows are looked at
    (flow_verdict 0 one (0 ∷ 1 ∷ 2 ∷ []) (flow 0 9 two ∷ []), fault StateIsKept 2 None) ∷
    (flow_verdict 0 one both (flow 0 1 two ∷ flow 1 1 two ∷ []), fault ChoiceExists 1 (Some 1)) ∷  -- no such choice
    -- a flow from a state that is not kept
    (flow_verdict 0 one (0 ∷ []) sure, fault StateIsKept 1 (Some 0)) ∷
    -- a flow of nothing
    (flow_verdict 0 one both (flow 0 0 nought ∷ flow 0 1 two ∷ flow 1 0 two ∷ []), fault StateIsKept 0 (Some 0)) ∷
    -- state 0 gets 1 from outside and half of 3 from state 1, and lets out 3
    (flow_verdict 0 one both (flow 0 1 (of_int (pos 3)) ∷ flow 1 0 (of_int (pos 3)) ∷ []), fault FlowsBalance 0 None) ∷
    -- the 1 from outside comes to the start alone
    (flow_verdict 3 nought both sure, fault FlowsBalance 0 None) ∷
    (flow_verdict 0 two both sure, fault_of FlowsReachGoals) ∷  -- too little
    -- half of the amount is past width: the flow is named, before the rules on the sums
    (flow_verdict 0 two both (flow 0 0 tiny ∷ []), Wide (Some 0) (Some 0)) ∷
    []
    )
unfolding gcd gcd_with_fuel ratio of_int lt_ℚ ◌+ℚ◌ ◌*ℚ◌ narrow narrow_ℚ written_add written_mul written_compare
flow_verdicts = refl

-- ---- floors: the least probabilities are 1/3 at state 0 and 2/3 at state 1

floor_verdicts : AreEqual (
    (floor_verdict 0 third both (third ∷ two_thirds ∷ []) (2 ∷ 1 ∷ []), Yes) ∷  -- covered
    -- a start that is not kept counts as 0
    (floor_verdict 0 nought [] [] [], Yes) ∷
    (floor_verdict 0 third (1 ∷ []) (half ∷ []) (1 ∷ []), fault_of StartReachesThreshold) ∷  -- no line at most
    -- a goal counts as 1
    (floor_verdict 2 one [] [] [], Yes) ∷
    (floor_verdict 3 nought (3 ∷ []) (nought ∷ []) (0 ∷ []), Yes) ∷  -- lost start
    (floor_verdict 0 nought (1 ∷ []) (ratio (negsuc 0) 2 ∷ []) (1 ∷ []), fault Probability 1 None) ∷  -- below zero
    (floor_verdict 0 third both (two ∷ two_thirds ∷ []) (2 ∷ 1 ∷ []), fault Probability 0 None) ∷  -- above one
    -- by its first choice state 0 has no more than half of what state 1 counts as
    (floor_verdict 0 third both (half ∷ two_thirds ∷ []) (2 ∷ 1 ∷ []), fault ValueOnEachChoice 0 (Some 0)) ∷
    -- state 0 is not kept, so state 1 has 1/2 from the goal alone
    (floor_verdict 1 half (1 ∷ []) (two_thirds ∷ []) (1 ∷ []), fault ValueOnEachChoice 1 (Some 0)) ∷
    -- a state of value 0 has rank 0
    (floor_verdict 0 nought (3 ∷ []) (nought ∷ []) (1 ∷ []), fault RankZero 3 None) ∷
    -- by its second choice state 0 leads to state 1 alone, of the same rank
    (floor_verdict 0 third both (third ∷ two_thirds ∷ []) (1 ∷ 1 ∷ []), fault RankFalls 0 (Some 1)) ∷
    -- a goal may not be kept
    (floor_verdict 0 nought (2 ∷ []) (one ∷ []) (0 ∷ []), fault StateIsKept 2 None) ∷
    -- and before that its own line is read: its value and its rank
    (floor_verdict 0 nought (2 ∷ []) (one ∷ []) (4 ∷ []), fault RankZero 2 None) ∷
    (floor_verdict 0 nought (2 ∷ []) (two ∷ []) (4 ∷ []), fault Probability 2 None) ∷  -- goal value
    (floor_verdict 0 half both (third ∷ two_thirds ∷ []) (2 ∷ 1 ∷ []), fault_of StartReachesThreshold) ∷  -- too low
    -- half of what state 1 counts as is past width: the choice is named
    (floor_verdict 0 half both (nought ∷ tiny ∷ []) (0 ∷ 1 ∷ []), Wide (Some 0) (Some 0)) ∷
    []
    )
unfolding gcd gcd_with_fuel ratio of_int lt_ℚ ◌+ℚ◌ ◌*ℚ◌ narrow narrow_ℚ written_add written_mul written_compare
floor_verdicts = refl

-- ---- what the rules say of a place: a goal may not be kept, and of a state that isn't kept nothing is said

abbrev kept_says : List Bool → Rule → Option ℕ → Option ℕ → Type 0
kept_says kept = FlowSays back back_goals kept sure 0 one

goal_kept : kept_says (true ∷ true ∷ true ∷ false ∷ []) StateIsKept (Some 2) None → ⊥
goal_kept says = true≢false (says (omega arith, refl))

goal_cut : kept_says (true ∷ true ∷ false ∷ false ∷ []) StateIsKept (Some 2) None
goal_cut = λ is. absurd (true≢false (sym is.1))

-- a kept state of value 0 has rank 0
abbrev lost_says : ℕ → Type 0
lost_says rank = FloorSays back back_goals (false ∷ false ∷ false ∷ true ∷ []) (nought ∷ nought ∷ nought ∷ nought ∷ []) (0 ∷ 0 ∷ 0 ∷ rank ∷ []) 3 nought RankZero (Some 3) None

lost_at_one : lost_says 1 → ⊥
lost_at_one says = let none = says (omega arith, refl) (inr refl) in omega (arith, none)

lost_at_zero : lost_says 0
lost_at_zero = λ is ends. refl
