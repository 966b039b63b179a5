-- The query of a witness: a set of states on which the best probability of reaching a goal from the start is at least the threshold. In its order:
--     the query of the model
--     the comparison of its value at the start with the threshold: a value below it ends the query
--     the first set, and its evaluation
--     the trials
--     and the rules of certificates, against which the certificate of what is left is held
-- The first written term past width ends it, but for a term of a trial, which ends that trial.
use Rattle.std.specs.Prelude.{◌≡◌, ℕ, Bool, true, false, List, slice_index, Option, Some, None, Result, Ok, Err}
use Rattle.mdp_math.specs.Rational.{ℚ}
use Rattle.mdp_spec.specs.Mdp.{Mdp, states_of, value_at}
use Rattle.mdp_rows.specs.{declared.dir.Dir.{Dir}, declared.dir.Dir.TheVariants.{Max, Min}}
use Rattle.mdp_wide.specs.declared.too_wide.Part.TheVariants as part
use Rattle.mdp_wide.specs.{declared.too_wide.Kind.TheVariants.{Evaluate, Compare, Check}, Term.{WideTerm}}
use Rattle.mdp_farkas.specs.{Compare.{is_at_least}, Verdict.{verdict_of}}
use Rattle.mdp_claims.specs.{declared.verdict.Verdict.{Verdict}, declared.verdict.Verdict.TheVariants.{Yes, No, Wide}, declared.subsystem.Flow.{Flow}}
use Rattle.mdp_subsystem_rules.specs.{FlowChecks.{flow_checks}, FloorChecks.{floor_checks}, Listed.{listed, marks_at, values_at, ranks_at}}
use Rattle.mdp_subsystem_rules.specs.Visits.{visit_flows}
use Rattle.mdp_reach.specs.{Query.{Answer}, Round.{EndsWithRound}}
use Rattle.mdp_witness.specs.{First.{IsFirst}, Evaluation.{Visited, visited, Visits, visited_value}, LeastEvaluation.{Evaluates, value_from}, Trial.{AreLeft}}

-- what is printed: the kept states, and for each whether it is kept for want of width; then the flows, or the values and the ranks of the kept states
pub data PlainSubsystem : Type 0 where
  flow : List ℕ → List Bool → List Flow → PlainSubsystem
  floor : List ℕ → List Bool → List ℚ → List ℕ → PlainSubsystem

-- why there is none: the best probability, where it is below the threshold; or the first term past width
pub data Refusal : Type 0 where
  below : ℚ → Refusal
  too_wide : WideTerm → Refusal

-- ---- terms past width

-- in the comparison with the threshold: in the last round of the query of the model
abbrev pub comparing : ℕ → List ℕ → ℕ → WideTerm
comparing round policy start = record { part = part.Whole; number = round; policy = policy; kind = Compare; state = Some start; choice = None }

-- in the visits of the first set, at a state, and in the check of their flows: there is one round, with the policy of the query of the model
abbrev pub visiting : List ℕ → ℕ → WideTerm
visiting policy s = record { part = part.Flow; number = 0; policy = policy; kind = Evaluate; state = Some s; choice = Some (slice_index policy s) }

abbrev pub checking : List ℕ → Option ℕ → Option ℕ → WideTerm
checking policy state choice = record { part = part.Flow; number = 0; policy = policy; kind = Check; state = state; choice = choice }

-- in the query of the first set: a term of that query
abbrev pub in_floor : WideTerm → WideTerm
in_floor w = record { part = part.Floor; number = w.number; policy = w.policy; kind = w.kind; state = w.state; choice = w.choice }

-- ---- certificates

-- the kept states of the greatest probability, with the flows of their visits by the policy, but those of amount 0
abbrev pub flow_of : Mdp → List ℕ → List Bool → List Bool → Visited → PlainSubsystem
flow_of m policy kept wide last = flow (listed (states_of m) kept) (marks_at wide (listed (states_of m) kept)) (visit_flows (states_of m) policy last.visits)

-- those of the least one, with their values and ranks in the query of the subsystem
abbrev pub floor_of : Mdp → List Bool → List Bool → Answer → PlainSubsystem
floor_of m kept wide last =
    floor (listed (states_of m) kept) (marks_at wide (listed (states_of m) kept)) (values_at last.values (listed (states_of m) kept)) (ranks_at last.ranks (listed (states_of m) kept))

-- what the rules say of one
abbrev pub verdict_on : Mdp → List Bool → ℕ → ℚ → PlainSubsystem → Verdict
verdict_on m goals start threshold (flow kept wide flows) = verdict_of (flow_checks m goals start threshold kept flows)
verdict_on m goals start threshold (floor kept wide values ranks) = verdict_of (floor_checks m goals start threshold kept values ranks)

-- flows, held against the rules, of which none is false
abbrev pub FlowHeld : List ℕ → PlainSubsystem → Verdict → Result PlainSubsystem Refusal → Type 0
FlowHeld policy found Yes r = r ≡ Ok found
FlowHeld policy found (Wide state choice) r = r ≡ Err (too_wide (checking policy state choice))
FlowHeld policy found (No fault) r = ⊥

-- values and ranks. No term of this check is past width: it was one of the check of the subsystem's query, or of a comparison with the threshold
abbrev pub FloorHeld : PlainSubsystem → Verdict → Result PlainSubsystem Refusal → Type 0
FloorHeld found Yes r = r ≡ Ok found
FloorHeld found (Wide state choice) r = ⊥
FloorHeld found (No fault) r = ⊥

-- ---- from the first set on

module _ (m : Mdp) (goals : List Bool) (start : ℕ) (threshold : ℚ) where
  -- after the trials for the greatest probability, by what they leave
  pub record AfterMaxTrials (policy : List ℕ) (first : List Bool) (r : Result PlainSubsystem Refusal) : Type 0 where
    pub kept : List Bool
    pub wide : List Bool
    pub last : Visited
    pub left : AreLeft (Visits m goals policy start) visited_value threshold first kept wide last
    pub held : FlowHeld policy (flow_of m policy kept wide last) (verdict_on m goals start threshold (flow_of m policy kept wide last)) r

  -- after the evaluation of the first set
  abbrev pub AfterVisits : List ℕ → List Bool → Result Visited ℕ → Result PlainSubsystem Refusal → Type 0
  AfterVisits policy first (Err s) r = r ≡ Err (too_wide (visiting policy s))
  AfterVisits policy first (Ok v) r = AfterMaxTrials policy first r

  -- after the trials for the least probability
  pub record AfterMinTrials (first : List Bool) (r : Result PlainSubsystem Refusal) : Type 0 where
    pub kept : List Bool
    pub wide : List Bool
    pub last : Answer
    pub left : AreLeft (Evaluates m goals) (value_from start) threshold first kept wide last
    pub held : FloorHeld (floor_of m kept wide last) (verdict_on m goals start threshold (floor_of m kept wide last)) r

  -- after the query of the first set's subsystem
  abbrev pub AfterFirstQuery : List Bool → Result Answer WideTerm → Result PlainSubsystem Refusal → Type 0
  AfterFirstQuery first (Err w) r = r ≡ Err (too_wide (in_floor w))
  AfterFirstQuery first (Ok a) r = AfterMinTrials first r

  -- ---- in the order of its parts

  -- after the first set
  abbrev pub AfterFirst : Dir → Answer → List Bool → Result PlainSubsystem Refusal → Type 0
  AfterFirst Max a first r = AfterVisits a.choices first (visited m goals a.choices start first) r
  AfterFirst Min a first r = (evaluation : Result Answer WideTerm) × Evaluates m goals first evaluation × AfterFirstQuery first evaluation r

  abbrev pub FromFirst : Dir → Answer → Result PlainSubsystem Refusal → Type 0
  FromFirst dir a r = (first : List Bool) × IsFirst dir m goals a.values a.choices start first × AfterFirst dir a first r

  -- after the comparison with the threshold: whether the value at the start is at least that
  abbrev pub AfterComparison : Dir → ℕ → Answer → Option Bool → Result PlainSubsystem Refusal → Type 0
  AfterComparison dir round a None r = r ≡ Err (too_wide (comparing round a.choices start))
  AfterComparison dir round a (Some false) r = r ≡ Err (below (value_at a.values start))
  AfterComparison dir round a (Some true) r = FromFirst dir a r

  -- after the query of the model, which ends in this round
  abbrev pub AfterWhole : Dir → ℕ → Result Answer WideTerm → Result PlainSubsystem Refusal → Type 0
  AfterWhole dir round (Err w) r = r ≡ Err (too_wide w)
  AfterWhole dir round (Ok a) r = AfterComparison dir round a (is_at_least (value_at a.values start) threshold) r

-- the query ends so
pub record EndsSo (dir : Dir) (m : Mdp) (goals : List Bool) (start : ℕ) (threshold : ℚ) (r : Result PlainSubsystem Refusal) : Type 0 where
  pub round : ℕ
  pub whole : Result Answer WideTerm
  pub solved : EndsWithRound dir m goals round whole
  pub after : AfterWhole m goals start threshold dir round whole r
