-- The query of a witness has an end: each of its parts has one, and the certificate of what is left meets the rules, so that its check isn't a no.
use Rattle.std.proofs.Common.{◌≡◌, ℕ, ◌<◌, Bool, true, false, List, length, Option, Some, None, Result, Ok, Err, refl, sym, subst}
use Rattle.mdp_math.specs.Rational.{ℚ, ◌≤ℚ◌}
use Rattle.mdp_spec.specs.{Mdp.{Mdp, states_of, value_at}, Row.{IsMdp}, Rules.{MeetsReachMax}, Sub.{sub_of}}
use Rattle.mdp_spec.proofs.Subsystem.{sub_is_mdp}
use Rattle.mdp_rows.specs.{declared.dir.Dir.{Dir}, declared.dir.Dir.TheVariants.{Max, Min}}
use Rattle.mdp_wide.specs.Term.{WideTerm}
use Rattle.mdp_farkas.specs.Compare.{is_at_least}
use Rattle.mdp_farkas.proofs.Comparing.{le_of_at_least}
use Rattle.mdp_claims.specs.{declared.verdict.Fault.{Fault}, declared.verdict.Verdict.{Verdict}, declared.verdict.Verdict.TheVariants.{Yes, No, Wide}, declared.subsystem.Flow.{Flow}}
use Rattle.mdp_subsystem_rules.specs.{Flow.{MeetsFlow}, Listed.{listed, marks_at, values_at, ranks_at}, Visits.{visit_flows}}
use Rattle.mdp_subsystem_rules.specs.Laws.{WholeIsModel, LeastGrows, ListedMeetsFloor, ListedFloorShape}
use Rattle.mdp_subsystem_rules.proofs.{FlowRules.{flow_never_no}, Listed.{kept_marks-listed, listed_flow_shape}}
use Rattle.mdp_reach.specs.Query.{Answer}
use Rattle.mdp_reach.specs.Laws as reach
use Rattle.mdp_reach.specs.Query as query
use Rattle.mdp_witness.specs.{First.{IsFirst}, Evaluation.{Visited, visited, Visits, visited_value}, LeastEvaluation.{Evaluates, value_from}}
use Rattle.mdp_witness.specs.{Laws.{HasAnEnd}, TrialLaws.{LeastFirstReaches, MinKeptIsFloor}}
use Rattle.mdp_witness.specs.Query.{PlainSubsystem, Refusal, below, too_wide, comparing, visiting, checking, in_floor, flow_of, floor_of, verdict_on, FlowHeld}
use Rattle.mdp_witness.specs.Query.{AfterVisits, FromFirst, AfterComparison, AfterWhole, EndsSo}
use Rattle.mdp_witness.proofs.{FirstExists.{first_exists}, TrialsEnd.{left_exists}, Kept.{kept_flow}, Flooring.{left-found}}

-- flows that are held against the rules
held_by : (policy : List ℕ) (x : PlainSubsystem) (v : Verdict) → ((fault : Fault) → v ≡ No fault → ⊥) → (r : Result PlainSubsystem Refusal) × FlowHeld policy x v r
held_by policy x Yes never = (Ok x, refl)
held_by policy x (Wide state choice) never = (Err (too_wide (checking policy state choice)), refl)
held_by policy x (No fault) never = absurd (never fault refl)

module _ (m : Mdp) (goals : List Bool) (start : ℕ) (threshold : ℚ) (known_ : IsMdp m) (each : length goals ≡ states_of m) (inside : start < states_of m) where
  -- ---- the greatest probability

  module _ (z : List ℚ) (policy ranks : List ℕ) (rules : MeetsReachMax m goals z policy ranks) (reaches : threshold ≤ℚ value_at z start)
      (first : List Bool) (is : IsFirst Max m goals z policy start first) where
    after_visits : (e : Result Visited ℕ) → visited m goals policy start first ≡ e → (r : Result PlainSubsystem Refusal) × AfterVisits m goals start threshold policy first e r
    after_visits (Err s) same = (Err (too_wide (visiting policy s)), refl)
    after_visits (Ok v) same =
        let l = left_exists (Visits m goals policy start) visited_value threshold first (λ set. (visited m goals policy start set, refl)) v (sym same) in
        let is_flow = kept_flow m goals z policy ranks start threshold first l.0 l.1 l.2 known_ rules is inside reaches l.3 in
        let states : List ℕ = listed (states_of m) l.0 in
        let wide : List Bool = marks_at l.1 (listed (states_of m) l.0) in
        let flows : List Flow = visit_flows (states_of m) policy l.2.visits in
        let meets = subst (λ (marks : List Bool). MeetsFlow m goals marks (visit_flows (states_of m) policy l.2.visits) start threshold)
        (sym (kept_marks-listed (states_of m) l.0 is_flow.one_each)) is_flow.flow in
        let found : PlainSubsystem = flow_of m policy l.0 l.1 l.2 in
        let held = held_by policy found (verdict_on m goals start threshold found)
        (flow_never_no m goals start threshold states wide flows inside (listed_flow_shape m policy l.2.visits l.0 l.1) meets) in
        (held.0, record { kept = l.0; wide = l.1; last = l.2; left = l.3; held = held.1 })

  module _ (answers : reach.AnswersMeetRules) (ends : reach.HasAnEnd) (one : reach.HasOneEnd) (least : reach.AnswersAreLeast)
      (first_reaches : LeastFirstReaches) (floors : MinKeptIsFloor) (grows : LeastGrows) (whole : WholeIsModel) (lists : ListedMeetsFloor) (shapes : ListedFloorShape) where
    -- ---- the least one

    module _ (a : Answer) (solved : query.EndsSo Min m goals (Ok a)) (reaches : is_at_least (value_at a.values start) threshold ≡ Some true)
        (first : List Bool) (is : IsFirst Min m goals a.values a.choices start first) where
      from_query : (e : Result Answer WideTerm) → Evaluates m goals first e → (r : Result PlainSubsystem Refusal) × FromFirst m goals start threshold Min a r
      from_query (Err w) evaluated = (Err (too_wide (in_floor w)), (first, is, (Err w, evaluated, refl)))
      from_query (Ok v) evaluated =
          let l = left_exists (Evaluates m goals) (value_from start) threshold first (λ set. ends Min (sub_of m goals set) goals (sub_is_mdp m goals set known_)) v evaluated in
          let states : List ℕ = listed (states_of m) l.0 in (
            Ok (floor_of m l.0 l.1 l.2),
            left-found m goals a a.values a.choices refl refl known_ each solved answers start threshold first l.0 l.1 l.2 inside is reaches l.3 one least first_reaches floors grows whole
                states (marks_at l.1 states) (values_at l.2.values states) (ranks_at l.2.ranks states) refl lists shapes v evaluated,
          )

    -- ---- the parts in their order

    from_first : (dir : Dir) (a : Answer) → query.EndsSo dir m goals (Ok a) → is_at_least (value_at a.values start) threshold ≡ Some true
        → (r : Result PlainSubsystem Refusal) × FromFirst m goals start threshold dir a r
    from_first Max a solved reaches =
        let rules = (answers Max m goals a known_ solved).rules in
        let f = first_exists Max m goals a.values a.choices start known_ rules.choices inside in
        let after = after_visits a.values a.choices a.ranks rules (le_of_at_least (value_at a.values start) threshold reaches) f.0 f.1 (visited m goals a.choices start f.0) refl in
        (after.0, (f.0, f.1, after.1))
    from_first Min a solved reaches =
        let rules = (answers Min m goals a known_ solved).rules in
        let f = first_exists Min m goals a.values a.choices start known_ rules.choices inside in
        let e = ends Min (sub_of m goals f.0) goals (sub_is_mdp m goals f.0 known_) in
        from_query a solved reaches f.0 f.1 e.0 e.1

    after_comparison : (dir : Dir) (round : ℕ) (a : Answer) (o : Option Bool) → query.EndsSo dir m goals (Ok a) → is_at_least (value_at a.values start) threshold ≡ o
        → (r : Result PlainSubsystem Refusal) × AfterComparison m goals start threshold dir round a o r
    after_comparison dir round a None solved e = (Err (too_wide (comparing round a.choices start)), refl)
    after_comparison dir round a (Some false) solved e = (Err (below (value_at a.values start)), refl)
    after_comparison dir round a (Some true) solved e = from_first dir a solved e

    after_whole : (dir : Dir) (round : ℕ) (w : Result Answer WideTerm) → query.EndsSo dir m goals w → (r : Result PlainSubsystem Refusal) × AfterWhole m goals start threshold dir round w r
    after_whole dir round (Err w) solved = (Err (too_wide w), refl)
    after_whole dir round (Ok a) solved = after_comparison dir round a (is_at_least (value_at a.values start) threshold) solved refl

    end_by : (dir : Dir) → reach.HasARound → (r : Result PlainSubsystem Refusal) × EndsSo dir m goals start threshold r
    end_by dir rounds =
        let w = rounds dir m goals known_ in
        let after = after_whole dir w.0 w.1 w.2.ends in
        (after.0, record { round = w.0; whole = w.1; solved = w.2; after = after.1 })

pub has_an_end : reach.AnswersMeetRules → reach.HasAnEnd → reach.HasOneEnd → reach.AnswersAreLeast → LeastFirstReaches → MinKeptIsFloor → LeastGrows → WholeIsModel → ListedMeetsFloor
    → ListedFloorShape → reach.HasARound → HasAnEnd
has_an_end answers ends one least first_reaches floors grows whole lists shapes rounds dir m goals start threshold known_ each inside =
    end_by m goals start threshold known_ each inside answers ends one least first_reaches floors grows whole lists shapes dir rounds
