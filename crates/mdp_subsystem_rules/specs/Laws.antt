-- What the rules of a floor and of a flow show of a subsystem, that with fewer kept states no chance is greater, and which lists are printed of a
-- certificate that meets them.
use Rattle.std.specs.Prelude.{◌≡◌, ◌↔◌, ℕ, ◌<◌, Bool, true, false, ◌||◌, List, length, Option}
use Rattle.mdp_math.specs.Rational.{ℚ, ◌≤ℚ◌, ◌<ℚ◌}
use Rattle.mdp_spec.specs.{Mdp.{Mdp, states_of, value_at}, Row.{IsMdp}, Rules.{MeetsReachMin}, Tree.{IsPolicy, is_marked}, Sub.{sub_of, policy_on}}
use Rattle.mdp_spec.specs.Bounds.{ReachMax, ReachMin, SubMax, SubMaxWithin, SubMin}
use Rattle.mdp_farkas.specs.{Verdict.{verdict_of}, Laws.{IsInModel}}
use Rattle.mdp_claims.specs.{declared.rule.Rule.{Rule}, declared.verdict.Fault.{Fault}, declared.verdict.Verdict.TheVariants.{No}, declared.subsystem.Flow.{Flow}}
use Rattle.mdp_subsystem_rules.specs.{Floor.{MeetsFloor}, FloorChecks.{floor_checks, spread_values, spread_ranks}, FlowChecks.{flow_checks}, Kept.{kept_marks}}
use Rattle.mdp_subsystem_rules.specs.{Listed.{listed, marks_at, values_at, ranks_at}, Shape.{IsFlowShape, IsFloorShape}}
use Rattle.mdp_subsystem_rules.specs.{Flow.{MeetsFlow, flow_total, flow_value}, Fewer.{IsIncluded, ReachesMore}, Visits.{AreVisitsOn, visit_flows}}
use Rattle.mdp_subsystem_rules.specs.{Policy.{AreOfPolicy, hit_on, PolicyWithin, FallsShort}, Says.{FlowSays, FloorSays}}

-- ---- the rules

-- a floor: each deep tree of the subsystem comes close to the threshold
abbrev pub FloorShows : Type 0
FloorShows =
    (m : Mdp) (goals kept : List Bool) (z : List ℚ) (ranks : List ℕ) (start : ℕ) (threshold : ℚ) → IsMdp m → start < states_of m → MeetsFloor m goals kept z ranks start threshold
    → SubMin m goals kept start threshold

-- a flow: some trees do, at a depth of at most k times the sum of the flows, rounded up
abbrev pub FlowShows : Type 0
FlowShows =
    (m : Mdp) (goals kept : List Bool) (flows : List Flow) (start : ℕ) (threshold : ℚ) → IsMdp m → start < states_of m → MeetsFlow m goals kept flows start threshold
    → SubMax m goals kept start threshold × SubMaxWithin m goals kept start threshold (flow_total flows)

-- flows of one policy: the policy itself does
abbrev pub PolicyShows : Type 0
PolicyShows =
    (m : Mdp) (goals kept : List Bool) (flows : List Flow) (start : ℕ) (threshold : ℚ) (policy : List ℕ) → IsMdp m → IsPolicy m policy → start < states_of m → AreOfPolicy policy flows
    → MeetsFlow m goals kept flows start threshold → PolicyWithin m goals kept start threshold (flow_total flows) (policy_on goals kept policy)

-- ---- certificates that are made so

-- values and ranks of the least probability on the subsystem are a floor
abbrev pub LeastIsFloor : Type 0
LeastIsFloor =
    (m : Mdp) (goals kept : List Bool) (z : List ℚ) (policy ranks : List ℕ) (start : ℕ) (threshold : ℚ) → IsMdp m → start < states_of m
    → ((s : ℕ) → s < states_of m → is_marked kept s ≡ true → is_marked goals s ≡ false) → MeetsReachMin (sub_of m goals kept) goals z policy ranks → threshold ≤ℚ value_at z start
    → MeetsFloor m goals kept z ranks start threshold

-- the expected visits of a policy are flows of this policy
abbrev pub VisitsAreFlow : Type 0
VisitsAreFlow =
    (m : Mdp) (goals kept : List Bool) (policy : List ℕ) (start : ℕ) (y : List ℚ) (threshold : ℚ) → IsMdp m → IsPolicy m policy → AreVisitsOn m kept policy start y
    → ((s : ℕ) → s < states_of m → is_marked kept s ≡ true → is_marked goals s ≡ false) → threshold ≤ℚ flow_value m goals (visit_flows (states_of m) policy y) start
    → MeetsFlow m goals kept (visit_flows (states_of m) policy y) start threshold × AreOfPolicy policy (visit_flows (states_of m) policy y)

-- and the policy's probability is at most what they bring to the goals
abbrev pub VisitsBound : Type 0
VisitsBound =
    (m : Mdp) (goals kept : List Bool) (policy : List ℕ) (start : ℕ) (y : List ℚ) → IsMdp m → IsPolicy m policy → start < states_of m → AreVisitsOn m kept policy start y
    → ((s : ℕ) → s < states_of m → is_marked kept s ≡ true → is_marked goals s ≡ false)
    → (n : ℕ) → hit_on m goals kept (policy_on goals kept policy) n start ≤ℚ flow_value m goals (visit_flows (states_of m) policy y) start

-- ---- fewer kept states

-- trees of the same depth
abbrev pub TreesReachMore : Type 0
TreesReachMore = (m : Mdp) (goals kept more : List Bool) → IsMdp m → IsIncluded m kept more → ReachesMore m goals kept more

-- where each state is kept, the subsystem is the model
abbrev pub WholeIsModel : Type 0
WholeIsModel = (m : Mdp) (goals kept : List Bool) → ((s : ℕ) → s < states_of m → (is_marked goals s || is_marked kept s) ≡ true) → sub_of m goals kept ≡ m

-- the greatest probabilities, and the least
abbrev pub GreatestGrows : Type 0
GreatestGrows =
    (m : Mdp) (goals kept more : List Bool) (z w : List ℚ) (policy other : List ℕ) (s : ℕ) → IsMdp m → IsIncluded m kept more → s < states_of m
    → ReachMax (sub_of m goals kept) goals z policy → ReachMax (sub_of m goals more) goals w other → value_at z s ≤ℚ value_at w s

abbrev pub LeastGrows : Type 0
LeastGrows =
    (m : Mdp) (goals kept more : List Bool) (z w : List ℚ) (policy other : List ℕ) (s : ℕ) → IsMdp m → IsIncluded m kept more → s < states_of m
    → ReachMin (sub_of m goals kept) goals z policy → ReachMin (sub_of m goals more) goals w other → value_at z s ≤ℚ value_at w s

-- ---- a subsystem that falls short

-- where the least probability of a larger subsystem is under the threshold, its policy falls short of it on each smaller one
abbrev pub LeastFallsShort : Type 0
LeastFallsShort =
    (m : Mdp) (goals kept more : List Bool) (start : ℕ) (threshold : ℚ) (z : List ℚ) (policy : List ℕ) → IsMdp m → IsIncluded m kept more → start < states_of m
    → ReachMin (sub_of m goals more) goals z policy → value_at z start <ℚ threshold → FallsShort m goals kept start threshold (policy_on goals kept policy)

-- and so does a policy of the model that stays below a number under the threshold
abbrev pub PolicyFallsShort : Type 0
PolicyFallsShort =
    (m : Mdp) (goals kept more : List Bool) (start : ℕ) (threshold x : ℚ) (policy : List ℕ) → IsMdp m → IsIncluded m kept more → start < states_of m → IsPolicy m policy
    → ((n : ℕ) → hit_on m goals more (policy_on goals more policy) n start ≤ℚ x) → x <ℚ threshold → FallsShort m goals kept start threshold (policy_on goals kept policy)

-- so where its expected visits on the larger subsystem bring less than the threshold to the goals
abbrev pub VisitsFallShort : Type 0
VisitsFallShort =
    (m : Mdp) (goals kept more : List Bool) (start : ℕ) (threshold : ℚ) (policy : List ℕ) (y : List ℚ) → IsMdp m → IsIncluded m kept more → start < states_of m → IsPolicy m policy
    → AreVisitsOn m more policy start y → ((s : ℕ) → s < states_of m → is_marked more s ≡ true → is_marked goals s ≡ false)
    → flow_value m goals (visit_flows (states_of m) policy y) start <ℚ threshold → FallsShort m goals kept start threshold (policy_on goals kept policy)

-- where a policy falls short, the subsystem doesn't reach the threshold whatever the policy
abbrev pub ShortIsNoFloor : Type 0
ShortIsNoFloor =
    (m : Mdp) (goals kept : List Bool) (start : ℕ) (threshold : ℚ) (policy : List ℕ) → IsMdp m → start < states_of m → IsPolicy (sub_of m goals kept) policy
    → FallsShort m goals kept start threshold policy → SubMin m goals kept start threshold → ⊥

-- ---- what a no means

-- where the flows meet the rules, the checks of the certificate end with yes or with a term past width
abbrev pub FlowNeverNo : Type 0
FlowNeverNo =
    (m : Mdp) (goals : List Bool) (start : ℕ) (threshold : ℚ) (kept : List ℕ) (wide : List Bool) (flows : List Flow) (fault : Fault) → start < states_of m → IsFlowShape m kept wide flows
    → MeetsFlow m goals (kept_marks (states_of m) kept) flows start threshold → verdict_of (flow_checks m goals start threshold kept flows) ≡ No fault → ⊥

-- and so where values and ranks meet those of a floor
abbrev pub FloorNeverNo : Type 0
FloorNeverNo =
    (m : Mdp) (goals : List Bool) (start : ℕ) (threshold : ℚ) (kept : List ℕ) (wide : List Bool) (values : List ℚ) (ranks : List ℕ) (fault : Fault) → length goals ≡ states_of m → start < states_of m
    → IsFloorShape m kept wide values ranks → MeetsFloor m goals (kept_marks (states_of m) kept) (spread_values m kept values) (spread_ranks m kept ranks) start threshold
    → verdict_of (floor_checks m goals start threshold kept values ranks) ≡ No fault → ⊥

-- the state that a no to a flow names is one of the model, and what the rule that it names says of that place is false
abbrev pub FlowNoRefutes : Type 0
FlowNoRefutes =
    (m : Mdp) (goals : List Bool) (start : ℕ) (threshold : ℚ) (kept : List ℕ) (wide : List Bool) (flows : List Flow) (fault : Fault) → start < states_of m → IsFlowShape m kept wide flows
    → verdict_of (flow_checks m goals start threshold kept flows) ≡ No fault
    → IsInModel m fault × (FlowSays m goals (kept_marks (states_of m) kept) flows start threshold fault.rule fault.state fault.choice → ⊥)

-- and so of a floor
abbrev pub FloorNoRefutes : Type 0
FloorNoRefutes =
    (m : Mdp) (goals : List Bool) (start : ℕ) (threshold : ℚ) (kept : List ℕ) (wide : List Bool) (values : List ℚ) (ranks : List ℕ) (fault : Fault) → length goals ≡ states_of m → start < states_of m
    → IsFloorShape m kept wide values ranks → verdict_of (floor_checks m goals start threshold kept values ranks) ≡ No fault
    → IsInModel m fault
    × (FloorSays m goals (kept_marks (states_of m) kept) (spread_values m kept values) (spread_ranks m kept ranks) start threshold fault.rule fault.state fault.choice → ⊥)

-- what the rules say of all places is together what they ask in exact numbers: of a flow, and of a floor
abbrev pub FlowSaysAll : Type 0
FlowSaysAll =
    (m : Mdp) (goals kept : List Bool) (flows : List Flow) (start : ℕ) (threshold : ℚ)
    → MeetsFlow m goals kept flows start threshold ↔ ((rule : Rule) (state choice : Option ℕ) → FlowSays m goals kept flows start threshold rule state choice)

abbrev pub FloorSaysAll : Type 0
FloorSaysAll =
    (m : Mdp) (goals kept : List Bool) (z : List ℚ) (ranks : List ℕ) (start : ℕ) (threshold : ℚ)
    → MeetsFloor m goals kept z ranks start threshold ↔ ((rule : Rule) (state choice : Option ℕ) → FloorSays m goals kept z ranks start threshold rule state choice)

-- ---- what is listed of marks, values and ranks

-- the listed states have the marks that they are listed of
abbrev pub ListedAreMarks : Type 0
ListedAreMarks = (n : ℕ) (marks : List Bool) → length marks ≡ n → kept_marks n (listed n marks) ≡ marks

-- the lists have the shape of a certificate
abbrev pub ListedFlowShape : Type 0
ListedFlowShape =
    (m : Mdp) (kept wide : List Bool) (policy : List ℕ) (y : List ℚ)
    → IsFlowShape m (listed (states_of m) kept) (marks_at wide (listed (states_of m) kept)) (visit_flows (states_of m) policy y)

abbrev pub ListedFloorShape : Type 0
ListedFloorShape =
    (m : Mdp) (kept wide : List Bool) (z : List ℚ) (ranks : List ℕ)
    → IsFloorShape m (listed (states_of m) kept) (marks_at wide (listed (states_of m) kept)) (values_at z (listed (states_of m) kept)) (ranks_at ranks (listed (states_of m) kept))

-- values and ranks that meet the rules of a floor meet them as they are listed
abbrev pub ListedMeetsFloor : Type 0
ListedMeetsFloor =
    (m : Mdp) (goals kept : List Bool) (z : List ℚ) (ranks : List ℕ) (start : ℕ) (threshold : ℚ) → length kept ≡ states_of m → MeetsFloor m goals kept z ranks start threshold
    → let states = listed (states_of m) kept in
    MeetsFloor m goals (kept_marks (states_of m) states) (spread_values m states (values_at z states)) (spread_ranks m states (ranks_at ranks states)) start threshold
