-- The rules for a flow, in their order and by written operations.
--     rule 21  a kept state is no goal
-- then for each flow
--     rule 2   its state has its choice
--     rule 21  its state is kept, and its amount is above 0
--              and its terms are added to the sums
-- then
--     rule 22  what leaves a kept state is at most what comes in, where the start gets 1 from outside
--     rule 23  what comes to the goals, and 1 where the start is a goal, is at least the threshold
use Rattle.std.specs.{Prelude.{ℕ, Bool, true, ◌&&◌, not, List, [], ◌∷◌, ◌++◌, map, Some, None, option_map, pos}, List.{All}}
use Rattle.mdp_math.specs.Rational.{ℚ, of_int, lt_ℚ}
use Rattle.mdp_spec.specs.{Mdp.{Mdp, states_of, value_at}, Tree.{is_marked}}
use Rattle.mdp_farkas.specs.{Compare.{is_at_least, is_at_most}, Reach.{choice_exists}, Verdict.{Check, InWidth, at_state, at_choice}}
use Rattle.mdp_claims.specs.{declared.subsystem.Flow.{Flow}, declared.rule.Rule.TheVariants.{FlowsBalance, FlowsReachGoals, StateIsKept}}
use Rattle.mdp_subsystem_rules.specs.{Flow.{MeetsFlow}, Kept.{kept_marks}, Sums.{FlowSums, first_sums, with_flow, after_flow, after_flows}}

-- rule 21 at a kept state, and at a flow
abbrev pub kept_check : List Bool → ℕ → Check
kept_check goals s = at_state StateIsKept s (Some (not (is_marked goals s)))

abbrev pub flow_check : List Bool → Flow → Check
flow_check kept f = at_choice StateIsKept f.state f.choice (Some (is_marked kept f.state && lt_ℚ (of_int (pos 0)) f.amount))

-- the flow's terms are in width: this check is never false, so it stands for no rule of its own but for the sums of rules 22 and 23
abbrev pub sums_check : Mdp → List Bool → FlowSums → Flow → Check
sums_check m goals sums f = at_choice FlowsBalance f.state f.choice (option_map (λ after. true) (with_flow m goals sums f))

-- all checks of one flow, and of each flow of a list from these sums on
abbrev pub checks_at : Mdp → List Bool → List Bool → FlowSums → Flow → List Check
checks_at m goals kept sums f = choice_exists m f.state f.choice ∷ flow_check kept f ∷ sums_check m goals sums f ∷ []

abbrev pub each_flow : Mdp → List Bool → List Bool → FlowSums → List Flow → List Check
each_flow m goals kept sums [] = []
each_flow m goals kept sums (f ∷ flows) = checks_at m goals kept sums f ++ each_flow m goals kept (after_flow m goals sums f) flows

-- rule 22
abbrev pub balance_check : FlowSums → ℕ → Check
balance_check sums s = at_state FlowsBalance s (is_at_most (value_at sums.outflows s) (value_at sums.inflows s))

-- rule 23
abbrev pub arrival_check : FlowSums → ℚ → Check
arrival_check sums threshold = record { rule = FlowsReachGoals; state = None; choice = None; holds = is_at_least sums.goal threshold }

-- the rules on the sums of all flows
abbrev pub sum_checks : List ℕ → ℚ → FlowSums → List Check
sum_checks kept threshold sums = map (balance_check sums) kept ++ arrival_check sums threshold ∷ []

-- the checks at the flows and of their sums
abbrev pub checks_from : Mdp → List Bool → ℚ → List ℕ → List Flow → FlowSums → List Check
checks_from m goals threshold kept flows sums =
    each_flow m goals (kept_marks (states_of m) kept) sums flows ++ sum_checks kept threshold (after_flows m goals sums flows)

abbrev pub flow_checks : Mdp → List Bool → ℕ → ℚ → List ℕ → List Flow → List Check
flow_checks m goals start threshold kept flows = map (kept_check goals) kept ++ checks_from m goals threshold kept flows (first_sums (states_of m) goals start)

-- what yes means: the rules hold in exact numbers, and no written term of a check is past width
pub record HoldsFlow (m : Mdp) (goals : List Bool) (start : ℕ) (threshold : ℚ) (kept : List ℕ) (flows : List Flow) : Type 0 where
  pub rules : MeetsFlow m goals (kept_marks (states_of m) kept) flows start threshold
  pub in_width : All InWidth (flow_checks m goals start threshold kept flows)
