-- What the first set, the evaluations and the trials imply.
use Rattle.std.specs.Prelude.{◌≡◌, ℕ, ◌<◌, Bool, true, false, List, length, Result, Ok}
use Rattle.mdp_math.specs.Rational.{ℚ, ◌≤ℚ◌, ◌<ℚ◌}
use Rattle.mdp_spec.specs.{Mdp.{Mdp, states_of, value_at}, Row.{IsMdp}, Rules.{MeetsReachMax, MeetsReachMin}, Sub.{sub_of, policy_on}}
use Rattle.mdp_spec.specs.Tree.{IsPolicy, is_marked}
use Rattle.mdp_rows.specs.declared.dir.Dir.TheVariants.{Max, Min}
use Rattle.mdp_elim.specs.System.{Leaves}
use Rattle.mdp_subsystem_rules.specs.{Fewer.{IsIncluded}, Floor.{MeetsFloor}, Flow.{MeetsFlow, flow_value}, Policy.{AreOfPolicy, FallsShort}}
use Rattle.mdp_subsystem_rules.specs.Visits.{AreVisitsOn, visit_flows}
use Rattle.mdp_reach.specs.Query.{Answer, policy_rows}
use Rattle.mdp_witness.specs.{First.{IsFirst}, Evaluation.{Visited, visited, Visits, visited_value}, LeastEvaluation.{Evaluates, value_from}}
use Rattle.mdp_witness.specs.Trial.{trial_set, without, AreLeft}

-- what the trials for the greatest probability need of their first set: no goal is in it, the policy leaves it, and its value is at least the threshold
pub record CanBeFirst (m : Mdp) (goals : List Bool) (policy ranks : List ℕ) (start : ℕ) (threshold : ℚ) (first : List Bool) : Type 0 where
  pub one_each : length first ≡ states_of m
  pub no_goal : (s : ℕ) → s < states_of m → is_marked first s ≡ true → is_marked goals s ≡ false
  pub leaves : Leaves (policy_rows m policy) first ranks
  pub reaches : (v : Visited) → visited m goals policy start first ≡ Ok v → threshold ≤ℚ v.value

-- the first set of values, choices and ranks that meet the rules of the greatest probability
abbrev pub FirstReaches : Type 0
FirstReaches =
    (m : Mdp) (goals : List Bool) (z : List ℚ) (policy ranks : List ℕ) (start : ℕ) (threshold : ℚ) (first : List Bool)
    → IsMdp m → MeetsReachMax m goals z policy ranks → IsFirst Max m goals z policy start first → start < states_of m → threshold ≤ℚ value_at z start
    → CanBeFirst m goals policy ranks start threshold first

-- what those for the least probability need: no goal is in it, and the least probability on its subsystem is at least the threshold
pub record CanBeLeastFirst (m : Mdp) (goals : List Bool) (start : ℕ) (threshold : ℚ) (first : List Bool) : Type 0 where
  pub one_each : length first ≡ states_of m
  pub no_goal : (s : ℕ) → s < states_of m → is_marked first s ≡ true → is_marked goals s ≡ false
  pub reaches : (a : Answer) → Evaluates m goals first (Ok a) → threshold ≤ℚ value_from start a

-- the first set of values, choices and ranks that meet the rules of the least probability
abbrev pub LeastFirstReaches : Type 0
LeastFirstReaches =
    (m : Mdp) (goals : List Bool) (z : List ℚ) (policy ranks : List ℕ) (start : ℕ) (threshold : ℚ) (first : List Bool)
    → IsMdp m → MeetsReachMin m goals z policy ranks → IsFirst Min m goals z policy start first → start < states_of m → threshold ≤ℚ value_at z start
    → CanBeLeastFirst m goals start threshold first

-- ---- the evaluation of a set

-- in exact numbers: the expected visits of the policy, and what their flows bring to the goals
pub record AreExact (m : Mdp) (goals : List Bool) (policy : List ℕ) (start : ℕ) (set : List Bool) (v : Visited) : Type 0 where
  pub visits : AreVisitsOn m set policy start v.visits
  pub value : v.value ≡ flow_value m goals (visit_flows (states_of m) policy v.visits) start

abbrev pub VisitsAreExact : Type 0
VisitsAreExact =
    (m : Mdp) (goals : List Bool) (policy ranks : List ℕ) (start : ℕ) (set : List Bool) (v : Visited)
    → IsMdp m → IsPolicy m policy → length set ≡ states_of m → Leaves (policy_rows m policy) set ranks → start < states_of m
    → visited m goals policy start set ≡ Ok v
    → AreExact m goals policy start set v

-- ---- what the trials leave

-- where the first set reaches the threshold, so does the set that is left
abbrev pub LeftReaches : {E W : Type 0} → (List Bool → Result E W → Type 0) → (E → ℚ) → ℚ → Type 0
LeftReaches {E} Evaluates value threshold =
    (first kept wide : List Bool) (last : E)
    → AreLeft Evaluates value threshold first kept wide last → ((e : E) → Evaluates first (Ok e) → threshold ≤ℚ value e)
    → threshold ≤ℚ value last

-- the trials leave one set, with one evaluation
abbrev pub LeavesOne : {E W : Type 0} → (List Bool → Result E W → Type 0) → (E → ℚ) → ℚ → Type 0
LeavesOne {E} Evaluates value threshold =
    (first kept wide : List Bool) (last : E) (more far : List Bool) (final : E)
    → AreLeft Evaluates value threshold first kept wide last → AreLeft Evaluates value threshold first more far final
    → (kept ≡ more) × (wide ≡ far) × (last ≡ final)

-- in the trial of a state that stays and isn't marked as wide the set fell below the threshold
abbrev pub LeftAreNeeded : {E W : Type 0} → (List Bool → Result E W → Type 0) → (E → ℚ) → ℚ → Type 0
LeftAreNeeded {E} Evaluates value threshold =
    (first kept wide : List Bool) (last : E) (x : ℕ)
    → AreLeft Evaluates value threshold first kept wide last → x < length first → is_marked kept x ≡ true → is_marked wide x ≡ false
    → (e : E) × Evaluates (trial_set first kept x) (Ok e) × (value e <ℚ threshold)

-- for the greatest probability
abbrev pub VisitsLeaveOne : Type 0
VisitsLeaveOne = (m : Mdp) (goals : List Bool) (policy : List ℕ) (start : ℕ) (threshold : ℚ) → LeavesOne (Visits m goals policy start) visited_value threshold

abbrev pub VisitsLeftReach : Type 0
VisitsLeftReach = (m : Mdp) (goals : List Bool) (policy : List ℕ) (start : ℕ) (threshold : ℚ) → LeftReaches (Visits m goals policy start) visited_value threshold

abbrev pub VisitsLeftAreNeeded : Type 0
VisitsLeftAreNeeded = (m : Mdp) (goals : List Bool) (policy : List ℕ) (start : ℕ) (threshold : ℚ) → LeftAreNeeded (Visits m goals policy start) visited_value threshold

-- for the least one
abbrev pub ValuesLeaveOne : Type 0
ValuesLeaveOne = (m : Mdp) (goals : List Bool) (start : ℕ) (threshold : ℚ) → LeavesOne (Evaluates m goals) (value_from start) threshold

abbrev pub ValuesLeftReach : Type 0
ValuesLeftReach = (m : Mdp) (goals : List Bool) (start : ℕ) (threshold : ℚ) → LeftReaches (Evaluates m goals) (value_from start) threshold

abbrev pub ValuesLeftAreNeeded : Type 0
ValuesLeftAreNeeded = (m : Mdp) (goals : List Bool) (start : ℕ) (threshold : ℚ) → LeftAreNeeded (Evaluates m goals) (value_from start) threshold

-- ---- no single state more can go

-- for the greatest probability: on what is left without a state that isn't marked as wide the policy falls short of the threshold
abbrev pub MaxKeptAreNeeded : Type 0
MaxKeptAreNeeded =
    (m : Mdp) (goals : List Bool) (z : List ℚ) (policy ranks : List ℕ) (start : ℕ) (threshold : ℚ) (first kept wide : List Bool) (last : Visited) (x : ℕ)
    → IsMdp m → MeetsReachMax m goals z policy ranks → IsFirst Max m goals z policy start first → start < states_of m
    → AreLeft (Visits m goals policy start) visited_value threshold first kept wide last → is_marked kept x ≡ true → is_marked wide x ≡ false
    → FallsShort m goals (without kept x) start threshold (policy_on goals (without kept x) policy)

-- for the least one: there some policy falls short of it
abbrev pub MinKeptAreNeeded : Type 0
MinKeptAreNeeded =
    (m : Mdp) (goals : List Bool) (start : ℕ) (threshold : ℚ) (first kept wide : List Bool) (last : Answer) (x : ℕ)
    → IsMdp m → start < states_of m → AreLeft (Evaluates m goals) (value_from start) threshold first kept wide last → is_marked kept x ≡ true → is_marked wide x ≡ false
    → (policy : List ℕ) × IsPolicy (sub_of m goals (without kept x)) policy × FallsShort m goals (without kept x) start threshold policy

-- ---- what is left meets the rules of a certificate

-- for the greatest probability: the flows of its visits are flows of the policy that reach the threshold
pub record IsKeptFlow (m : Mdp) (goals : List Bool) (policy : List ℕ) (start : ℕ) (threshold : ℚ) (first kept : List Bool) (last : Visited) : Type 0 where
  pub one_each : length kept ≡ states_of m
  pub included : IsIncluded m kept first
  pub flow : MeetsFlow m goals kept (visit_flows (states_of m) policy last.visits) start threshold
  pub of_policy : AreOfPolicy policy (visit_flows (states_of m) policy last.visits)

abbrev pub MaxKeptIsFlow : Type 0
MaxKeptIsFlow =
    (m : Mdp) (goals : List Bool) (z : List ℚ) (policy ranks : List ℕ) (start : ℕ) (threshold : ℚ) (first kept wide : List Bool) (last : Visited)
    → IsMdp m → MeetsReachMax m goals z policy ranks → IsFirst Max m goals z policy start first → start < states_of m → threshold ≤ℚ value_at z start
    → AreLeft (Visits m goals policy start) visited_value threshold first kept wide last
    → IsKeptFlow m goals policy start threshold first kept last

-- for the least one: the values and ranks of its query are a floor at the threshold
pub record IsKeptFloor (m : Mdp) (goals : List Bool) (start : ℕ) (threshold : ℚ) (first kept : List Bool) (last : Answer) : Type 0 where
  pub one_each : length kept ≡ states_of m
  pub included : IsIncluded m kept first
  pub floor : MeetsFloor m goals kept last.values last.ranks start threshold

abbrev pub MinKeptIsFloor : Type 0
MinKeptIsFloor =
    (m : Mdp) (goals : List Bool) (z : List ℚ) (policy ranks : List ℕ) (start : ℕ) (threshold : ℚ) (first kept wide : List Bool) (last : Answer)
    → IsMdp m → MeetsReachMin m goals z policy ranks → IsFirst Min m goals z policy start first → start < states_of m → threshold ≤ℚ value_at z start
    → AreLeft (Evaluates m goals) (value_from start) threshold first kept wide last
    → IsKeptFloor m goals start threshold first kept last
