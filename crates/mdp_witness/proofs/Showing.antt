-- What a subsystem that was found shows.
use Rattle.std.proofs.Common.{◌≡◌, ℕ, ◌<◌, Bool, true, false, List, length, get_or, Option, Some, None, option_map, Result, Ok, Err, refl, sym, ◌∙◌, ap, subst}
use Rattle.std.proofs.lemmas.List.{get_or-map}
use Rattle.std.specs.{declared.cmp.Ordering.{Ordering}, declared.cmp.Ordering.TheVariants.{Less, Equal, Greater}}
use Rattle.mdp_math.specs.{Rational.{ℚ, ◌<ℚ◌}, Written.{written_compare}}
use Rattle.mdp_math.proofs.{Order.{lt_of_cmp}, Written.{written_compare-some}}
use Rattle.mdp_spec.specs.{Bounds.{SubMax, SubMin}, Mdp.{Mdp, states_of, value_at}, Row.{IsMdp}, Rules.{MeetsReachMax}, Sub.{sub_of, policy_on}}
use Rattle.mdp_spec.specs.Tree.{is_marked}
use Rattle.mdp_rows.specs.{declared.dir.Dir.{Dir}, declared.dir.Dir.TheVariants.{Max, Min}}
use Rattle.mdp_wide.specs.Term.{WideTerm}
use Rattle.mdp_farkas.specs.{Compare.{not_less}, Verdict.{verdict_of}}
use Rattle.mdp_farkas.proofs.Comparing.{le_of_at_least}
use Rattle.mdp_subsystem_rules.specs.{FlowChecks.{flow_checks, HoldsFlow}, FloorChecks.{floor_checks, HoldsFloor, spread_values, spread_ranks}}
use Rattle.mdp_subsystem_rules.specs.{Flow.{flow_total}, Kept.{kept_marks}}
use Rattle.mdp_subsystem_rules.specs.Laws.{FloorShows, FlowShows, PolicyShows, ListedAreMarks, ListedFlowShape, ListedFloorShape}
use Rattle.mdp_subsystem_rules.specs.{Listed.{listed, marks_at, values_at, ranks_at}, Policy.{PolicyWithin, FallsShort}, Visits.{visit_flows}}
use Rattle.mdp_claims.specs.declared.subsystem.Flow.{Flow}
use Rattle.mdp_subsystem_rules.proofs.{FlowRules.{flow_rules}, FloorRules.{floor_rules}, Kept.{listed-at}, Listed.{listed-in_range, is_listed-listed}}
use Rattle.mdp_reach.specs.{Laws.{HasOneEnd, AnswersMeetRules, AnswersAreGreatest, AnswersAreLeast}, Query.{Answer, EndsSo}}
use Rattle.mdp_witness.specs.{First.{IsFirst}, Evaluation.{Visited, visited, Visits, visited_value}, LeastEvaluation.{Evaluates, value_from}}
use Rattle.mdp_witness.specs.{TrialLaws.{MaxKeptIsFlow, MaxKeptAreNeeded, MinKeptAreNeeded}, Trial.{trial_set, without, trial_of, is_wide}}
use Rattle.mdp_witness.specs.Query.{PlainSubsystem, flow_of, floor_of, verdict_on}
use Rattle.mdp_witness.specs.Shown.{kept_in, HasShape, Holds, PolicyReaches, IsNeededMax, IsNeededMin, AreNeeded, MarksAreExactMax, MarksAreExactMin, IsBest, IsBestBelow}
use Rattle.mdp_witness.specs.Query as query
use Rattle.mdp_witness.proofs.{OneEnd.{one_first}, Sized.{kept_first}, Found.{IsFrom, IsLeftMax, IsLeftMin, left-max, left-min, is-from, is-below}}

-- ---- listed states

-- a listed state is marked; and its mark stands at its place
module _ (n : ℕ) (kept wide : List Bool) (i : ℕ) (l : i < length (listed n kept)) where
  pub listed_marked : is_marked kept (get_or (listed n kept) i 0) ≡ true
  listed_marked = sym (is_listed-listed n kept (get_or (listed n kept) i 0) (listed-in_range n kept i 0 l)) ∙ listed-at (listed n kept) i l

  pub listed_wide : get_or (marks_at wide (listed n kept)) i true ≡ false → is_marked wide (get_or (listed n kept) i 0) ≡ false
  listed_wide e = sym (get_or-map (is_marked wide) (listed n kept) i 0 true l) ∙ e

-- ---- the greatest probability

module _ (m : Mdp) (goals : List Bool) (start : ℕ) (threshold : ℚ) (found : PlainSubsystem) (known_ : IsMdp m) (inside : start < states_of m)
    (end : query.EndsSo Max m goals start threshold (Ok found)) where
  abbrev from_max : IsFrom m goals start threshold Max (Ok found)
  from_max = is-from m goals start threshold Max found end

  abbrev a : Answer
  a = from_max.answer

  abbrev first : List Bool
  first = from_max.from.0

  left_ : IsLeftMax m goals start threshold a.choices first found
  left_ = left-max m goals start threshold a.choices first found (visited m goals a.choices start first) from_max.from.2

  abbrev states : List ℕ
  states = listed (states_of m) left_.kept

  abbrev flows : List Flow
  flows = visit_flows (states_of m) a.choices left_.last.visits

  rules_max : AnswersMeetRules → MeetsReachMax m goals a.values a.choices a.ranks
  rules_max answers = (answers Max m goals a known_ from_max.solved).rules

  holds_flow : ListedFlowShape → HoldsFlow m goals start threshold states flows
  holds_flow shape =
      (flow_rules m goals start threshold states (marks_at left_.wide states) flows inside (shape m left_.kept left_.wide a.choices left_.last.visits)
      (verdict_of (flow_checks m goals start threshold states flows)) refl).0 left_.yes

  back : (P : PlainSubsystem → Type 0) → P (flow_of m a.choices left_.kept left_.wide left_.last) → P found
  back P h = subst P (sym left_.found_is) h

  pub shape-max : ListedFlowShape → HasShape Max m found
  shape-max shape = back (HasShape Max m) (shape m left_.kept left_.wide a.choices left_.last.visits)

  pub holds-max : ListedFlowShape → Holds Max m goals start threshold found
  holds-max shape = back (Holds Max m goals start threshold) (holds_flow shape)

  pub reaches-max : ListedFlowShape → FlowShows → SubMax m goals (kept_in m found) start threshold
  reaches-max shape shows = back (λ x. SubMax m goals (kept_in m x) start threshold) (shows m goals (kept_marks (states_of m) states) flows start threshold known_ inside (holds_flow shape).rules).0

  pub policy-max : ListedFlowShape → AnswersMeetRules → HasOneEnd → MaxKeptIsFlow → PolicyShows → PolicyReaches m goals start threshold found
  policy-max shape answers one law shows =
      back (PolicyReaches m goals start threshold)
      (λ b solved.
      let rules = rules_max answers in
      let is_flow = law m goals a.values a.choices a.ranks start threshold first left_.kept left_.wide left_.last known_ rules from_max.from.1 inside
      (le_of_at_least (value_at a.values start) threshold from_max.reaches) left_.left in
      let same : Ok b ≡ Ok a = one Max m goals (Ok a) (Ok b) from_max.solved solved in
      let e : a ≡ b = cc in
      subst (λ (b : Answer). PolicyWithin m goals (kept_marks (states_of m) states) start threshold (flow_total flows) (policy_on goals (kept_marks (states_of m) states) b.choices)) e
      (shows m goals (kept_marks (states_of m) states) flows start threshold a.choices known_ rules.choices inside is_flow.of_policy (holds_flow shape).rules))

  pub needed-max : AnswersMeetRules → HasOneEnd → ListedAreMarks → MaxKeptAreNeeded → AreNeeded (IsNeededMax m goals start threshold) m found
  needed-max answers one marked law =
      back (AreNeeded (IsNeededMax m goals start threshold) m)
      (λ i l w b solved.
      let x = get_or states i 0 in
      let same : Ok b ≡ Ok a = one Max m goals (Ok a) (Ok b) from_max.solved solved in
      let e : a ≡ b = cc in
      let marks = marked (states_of m) left_.kept (left_.left.one_kept_each ∙ from_max.from.1.one_each) in
      subst (λ (b : Answer). FallsShort m goals (without (kept_marks (states_of m) states) x) start threshold (policy_on goals (without (kept_marks (states_of m) states) x) b.choices)) e
      (subst (λ (kept : List Bool). FallsShort m goals (without kept x) start threshold (policy_on goals (without kept x) a.choices)) (sym marks)
      (law m goals a.values a.choices a.ranks start threshold first left_.kept left_.wide left_.last x known_ (rules_max answers) from_max.from.1 inside left_.left
      (listed_marked (states_of m) left_.kept left_.wide i l) (listed_wide (states_of m) left_.kept left_.wide i l w))))

  pub marked-max : HasOneEnd → ListedAreMarks → MarksAreExactMax m goals start threshold found
  marked-max one marked =
      back (MarksAreExactMax m goals start threshold)
      (λ b other i solved is l.
      let x = get_or states i 0 in
      let same : Ok b ≡ Ok a = one Max m goals (Ok a) (Ok b) from_max.solved solved in
      let e : a ≡ b = cc in
      let f : first ≡ other = sym (one_first Max m goals a.values a.choices start first other from_max.from.1 (subst (λ (b : Answer). IsFirst Max m goals b.values b.choices start other) (sym e) is)) in
      let marks = marked (states_of m) left_.kept (left_.left.one_kept_each ∙ from_max.from.1.one_each) in
      let size = from_max.from.1.one_each in
      let within : x < states_of m = listed-in_range (states_of m) left_.kept i 0 l in
      let t = left_.left.tried x (subst (λ (n : ℕ). x < n) (sym size) within)
      (kept_first (Visits m goals a.choices start) visited_value threshold first left_.kept left_.wide left_.last left_.left x (listed_marked (states_of m) left_.kept left_.wide i l)) in
      get_or-map (is_marked left_.wide) states i 0 false l ∙ t.marks ∙ ap (λ (r : Result Visited ℕ). is_wide (trial_of visited_value threshold r)) t.evaluated
      ∙ ap (λ (b : Answer). is_wide (trial_of visited_value threshold (visited m goals b.choices start (trial_set first left_.kept x)))) e
      ∙ ap (λ (set : List Bool). is_wide (trial_of visited_value threshold (visited m goals b.choices start (trial_set set left_.kept x)))) f
      ∙ ap (λ (kept : List Bool). is_wide (trial_of visited_value threshold (visited m goals b.choices start (trial_set other kept x)))) (sym marks))

-- ---- the least one

module _ (m : Mdp) (goals : List Bool) (start : ℕ) (threshold : ℚ) (found : PlainSubsystem) (known_ : IsMdp m) (each : length goals ≡ states_of m) (inside : start < states_of m)
    (end : query.EndsSo Min m goals start threshold (Ok found)) where
  abbrev from_min : IsFrom m goals start threshold Min (Ok found)
  from_min = is-from m goals start threshold Min found end

  abbrev first_min : List Bool
  first_min = from_min.from.0

  least : IsLeftMin m goals start threshold first_min found
  least = left-min m goals start threshold first_min found from_min.from.2.0 from_min.from.2.2

  abbrev states_min : List ℕ
  states_min = listed (states_of m) least.kept

  abbrev values : List ℚ
  values = values_at least.last.values states_min

  abbrev ranks : List ℕ
  ranks = ranks_at least.last.ranks states_min

  holds_floor : ListedFloorShape → HoldsFloor m goals start threshold states_min values ranks
  holds_floor shape =
      (floor_rules m goals start threshold states_min (marks_at least.wide states_min) values ranks each inside (shape m least.kept least.wide least.last.values least.last.ranks)
      (verdict_of (floor_checks m goals start threshold states_min values ranks)) refl).0 least.yes

  back_min : (P : PlainSubsystem → Type 0) → P (floor_of m least.kept least.wide least.last) → P found
  back_min P h = subst P (sym least.found_is) h

  pub shape-min : ListedFloorShape → HasShape Min m found
  shape-min shape = back_min (HasShape Min m) (shape m least.kept least.wide least.last.values least.last.ranks)

  pub holds-min : ListedFloorShape → Holds Min m goals start threshold found
  holds-min shape = back_min (Holds Min m goals start threshold) (holds_floor shape)

  pub reaches-min : ListedFloorShape → FloorShows → SubMin m goals (kept_in m found) start threshold
  reaches-min shape shows =
      back_min (λ x. SubMin m goals (kept_in m x) start threshold)
      (shows m goals (kept_marks (states_of m) states_min) (spread_values m states_min values) (spread_ranks m states_min ranks) start threshold known_ inside (holds_floor shape).rules)

  pub needed-min : ListedAreMarks → MinKeptAreNeeded → AreNeeded (IsNeededMin m goals start threshold) m found
  needed-min marked law =
      back_min (AreNeeded (IsNeededMin m goals start threshold) m)
      (λ i l w.
      let x = get_or states_min i 0 in
      let marks = marked (states_of m) least.kept (least.left.one_kept_each ∙ from_min.from.1.one_each) in
      let short = law m goals start threshold first_min least.kept least.wide least.last x known_ inside least.left (listed_marked (states_of m) least.kept least.wide i l)
      (listed_wide (states_of m) least.kept least.wide i l w) in
      subst (λ (kept : List Bool). IsNeededMin m goals start threshold kept x) (sym marks) (record { policy = short.0; is_policy = short.1; short = short.2 }))

  pub marked-min : HasOneEnd → ListedAreMarks → MarksAreExactMin m goals start threshold found
  marked-min one marked =
      back_min (MarksAreExactMin m goals start threshold)
      (λ b other i r solved is l evaluated.
      let a = from_min.answer in
      let x = get_or states_min i 0 in
      let same : Ok b ≡ Ok a = one Min m goals (Ok a) (Ok b) from_min.solved solved in
      let e : a ≡ b = cc in
      let f : other ≡ first_min = one_first Min m goals a.values a.choices start first_min other from_min.from.1 (subst (λ (b : Answer). IsFirst Min m goals b.values b.choices start other) (sym e) is) in
      let marks = marked (states_of m) least.kept (least.left.one_kept_each ∙ from_min.from.1.one_each) in
      let size = from_min.from.1.one_each in
      let within : x < states_of m = listed-in_range (states_of m) least.kept i 0 l in
      let t = least.left.tried x (subst (λ (n : ℕ). x < n) (sym size) within)
      (kept_first (Evaluates m goals) (value_from start) threshold first_min least.kept least.wide least.last least.left x (listed_marked (states_of m) least.kept least.wide i l)) in
      let here : Evaluates m goals (trial_set first_min least.kept x) r = subst (λ (kept : List Bool). Evaluates m goals (trial_set first_min kept x) r) marks
      (subst (λ (set : List Bool). Evaluates m goals (trial_set set (kept_marks (states_of m) states_min) x) r) f evaluated) in
      let one_evaluation : t.evaluation ≡ r = one Min (sub_of m goals (trial_set first_min least.kept x)) goals r t.evaluation here t.evaluated in
      get_or-map (is_marked least.wide) states_min i 0 false l ∙ t.marks ∙ ap (λ (r : Result Answer WideTerm). is_wide (trial_of (value_from start) threshold r)) one_evaluation)

-- ---- a value below the threshold

less_of : (x y : ℚ) (o : Option Ordering) → written_compare x y ≡ o → option_map not_less o ≡ Some false → x <ℚ y
less_of x y None e h = cc
less_of x y (Some Less) e h = lt_of_cmp x y (sym (written_compare-some x y Less (sym e)))
less_of x y (Some Equal) e h = cc
less_of x y (Some Greater) e h = cc

best : (dir : Dir) (m : Mdp) (goals : List Bool) (a : Answer) → IsMdp m → EndsSo dir m goals (Ok a) → AnswersAreGreatest → AnswersAreLeast → IsBest dir m goals a.values a.choices
best Max m goals a known_ solved most fewest = most m goals a known_ solved
best Min m goals a known_ solved most fewest = fewest m goals a known_ solved

pub below-best : (dir : Dir) (m : Mdp) (goals : List Bool) (start : ℕ) (threshold v : ℚ) → IsMdp m
    → query.EndsSo dir m goals start threshold (Err (query.below v)) → AnswersAreGreatest → AnswersAreLeast
    → IsBestBelow dir m goals start threshold v
below-best dir m goals start threshold v known_ end most fewest =
    let b = is-below m goals start threshold dir v end in
    record {
      values = b.answer.values;
      policy = b.answer.choices;
      best = best dir m goals b.answer known_ b.solved most fewest;
      value = b.value;
      less = subst (λ (x : ℚ). x <ℚ threshold) (sym b.value) (less_of (value_at b.answer.values start) threshold (written_compare (value_at b.answer.values start) threshold) refl b.less);
    }
