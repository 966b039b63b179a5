-- What holding a certificate against a model answers, and what a yes means.
use Rattle.std.specs.Prelude.{◌≡◌, ℕ, Bool, false, IsTrue, List, Option, Some, None, option_map, ◌==◌, if◌then◌else◌}
use Rattle.std.proofs.Math.ListN.{replicate}
use Rattle.mdp_spec.specs.{Mdp.{Mdp, states_of}, Labels.{place_of, marks_of, initial_of}}
use Rattle.mdp_spec.specs.{Sub.{sub_of}, Until.{UntilMax, UntilMin}}
use Rattle.mdp_spec.specs.Bounds.{Above, ReachMax, ReachMin, RewardMax, RewardMin, MeanMax, MeanMin, SubMax, SubMaxWithin, SubMin}
use Rattle.mdp_rows.specs.declared.dir.Dir.TheVariants.{Max, Min}
use Rattle.mdp_cert.specs.Cert.{PlainClaim, upper, reach, until, reward, mean, witness, PlainBody, bounds, policy, rewards, gains, flow, floor, Certificate, is_body_of}
use Rattle.mdp_farkas.specs.{Upper.{upper_checks, IsUpper}, Reach.{reach_checks, IsReach}, Reward.{reward_checks, IsReward}, Mean.{mean_checks, IsMean}}
use Rattle.mdp_farkas.specs.{Verdict.{verdict_of}, Initial.{init_fault}}
use Rattle.mdp_subsystem_rules.specs.{Flow.{flow_total}, Kept.{kept_marks}, FlowChecks.{flow_checks, HoldsFlow}, FloorChecks.{floor_checks, HoldsFloor}}
use Rattle.mdp_subsystem_rules.specs.Until.{SubUntilMax, SubUntilMaxWithin, SubUntilMin}
use Rattle.mdp_claims.specs.declared.subsystem.Flow.{Flow}
use Rattle.mdp_math.specs.Rational.{ℚ}
use Rattle.mdp_claims.specs.declared.verdict.Verdict.{Verdict}
use Rattle.mdp_claims.specs.declared.verdict.Verdict.TheVariants as verdict
use Rattle.mdp_check.specs.{Initial.{init_check, start_of}, declared.answer.Answer.{Answer}}
use Rattle.mdp_check.specs.declared.answer.Answer.TheVariants.{Yes, No, Wide, NoReward, NoLabel, Size}

-- ---- what the names in a claim stand for

-- the place of the claim's reward model in the model, where it is there; 0 where the claim names none
abbrev pub reward_place : Mdp → PlainClaim → Option ℕ
reward_place m (upper label) = Some 0
reward_place m (reach dir label) = Some 0
reward_place m (until dir stay label) = Some 0
reward_place m (reward dir name label) = place_of name m.names
reward_place m (mean dir name) = place_of name m.names
reward_place m (witness dir stay label threshold) = Some 0

-- which states have this label, where the model has it
abbrev pub labelled_marks : Mdp → List ℕ → Option (List Bool)
labelled_marks m label = option_map (marks_of m) (place_of label m.labels)

-- the same of a way to them, by the place of the label of the states on it: the model has this one too
abbrev pub marks_on_way : Mdp → List ℕ → Option ℕ → Option (List Bool)
marks_on_way m label None = None
marks_on_way m label (Some l) = labelled_marks m label

-- the same where no way may be named
abbrev pub marks_by : Mdp → Option (List ℕ) → List ℕ → Option (List Bool)
marks_by m None label = labelled_marks m label
marks_by m (Some stay) label = marks_on_way m label (place_of stay m.labels)

-- the states on the way: those with this label, none where the model hasn't it
abbrev pub stays_at : Mdp → Option ℕ → List Bool
stays_at m None = replicate (states_of m) false
stays_at m (Some l) = marks_of m l

abbrev pub stay_marks : Mdp → List ℕ → List Bool
stay_marks m stay = stays_at m (place_of stay m.labels)

-- the model on which the rules of reaching a goal are held: each state that is neither on the way nor a goal is left with a loop
abbrev pub way_of : Mdp → List Bool → List ℕ → Mdp
way_of m goals stay = sub_of m goals (stay_marks m stay)

-- the same where no way may be named: then it is the model
abbrev pub way_by : Mdp → List Bool → Option (List ℕ) → Mdp
way_by m goals None = m
way_by m goals (Some stay) = way_of m goals stay

-- the goals: which states have the claim's label; no state where the claim names none
abbrev pub goal_marks : Mdp → PlainClaim → Option (List Bool)
goal_marks m (upper label) = labelled_marks m label
goal_marks m (reach dir label) = labelled_marks m label
goal_marks m (until dir stay label) = marks_on_way m label (place_of stay m.labels)
goal_marks m (reward dir name label) = labelled_marks m label
goal_marks m (mean dir name) = Some (replicate (states_of m) false)
goal_marks m (witness dir stay label threshold) = marks_by m stay label

-- ---- the answer

abbrev pub answer_of : Verdict → Answer
answer_of verdict.Yes = Yes
answer_of (verdict.No f) = No f
answer_of (verdict.Wide state choice) = Wide state choice

-- what the rules of the claim from rule 2 on say of the body, for the reward model of place r, these goals and this initial state; of another
-- claim's body, that it isn't one
abbrev pub verdict_by : Mdp → ℕ → List Bool → ℕ → PlainClaim → PlainBody → Verdict
verdict_by m r goals start (upper label) (bounds z) = verdict_of (upper_checks m goals z)
verdict_by m r goals start (reach dir label) (policy z choices ranks) = verdict_of (reach_checks dir m goals z choices ranks)
verdict_by m r goals start (until dir stay label) (policy z choices ranks) = verdict_of (reach_checks dir (way_of m goals stay) goals z choices ranks)
verdict_by m r goals start (reward dir name label) (rewards v choices ranks) = verdict_of (reward_checks dir m r goals v choices ranks)
verdict_by m r goals start (mean dir name) (gains g bound bias choices spread) = verdict_of (mean_checks dir m r g bound bias spread choices)
verdict_by m r goals start (witness Max stay label t) (flow kept wide flows) = verdict_of (flow_checks (way_by m goals stay) goals start t kept flows)
verdict_by m r goals start (witness Min stay label t) (floor kept wide values ranks) = verdict_of (floor_checks (way_by m goals stay) goals start t kept values ranks)
verdict_by m r goals start claim body = init_fault None

-- a body that isn't the claim's, or that hasn't an entry per state, stands in no certificate; it would be refused
abbrev pub body_verdict : Mdp → ℕ → List Bool → Certificate → Verdict
body_verdict m r goals c = if is_body_of c.claim c.states c.body then verdict_by m r goals (start_of c.init) c.claim c.body else init_fault None

abbrev pub after_init : Verdict → Verdict → Verdict
after_init verdict.Yes rest = rest
after_init (verdict.No f) rest = verdict.No f
after_init (verdict.Wide state choice) rest = verdict.Wide state choice

abbrev pub at_goals : Mdp → Certificate → ℕ → Option (List Bool) → Answer
at_goals m c r None = NoLabel
at_goals m c r (Some goals) = answer_of (after_init (init_check c.init (initial_of m) c.body) (body_verdict m r goals c))

abbrev pub at_reward : Mdp → Certificate → Option ℕ → Answer
at_reward m c None = NoReward
at_reward m c (Some r) = at_goals m c r (goal_marks m c.claim)

-- the numbers of states, then the reward model, then the label, then the rules in their order
abbrev pub answer_to : Mdp → Certificate → Answer
answer_to m c = if c.states == states_of m then at_reward m c (reward_place m c.claim) else Size

-- ---- what yes means

-- the rules of the claim from rule 2 on hold in exact numbers, and no written term of a check is past width
abbrev pub valid_by : Mdp → ℕ → List Bool → ℕ → PlainClaim → PlainBody → Type 0
valid_by m r goals start (upper label) (bounds z) = IsUpper m goals z
valid_by m r goals start (reach dir label) (policy z choices ranks) = IsReach dir m goals z choices ranks
valid_by m r goals start (until dir stay label) (policy z choices ranks) = IsReach dir (way_of m goals stay) goals z choices ranks
valid_by m r goals start (reward dir name label) (rewards v choices ranks) = IsReward dir m r goals v choices ranks
valid_by m r goals start (mean dir name) (gains g bound bias choices spread) = IsMean dir m r g bound bias spread choices
valid_by m r goals start (witness Max stay label t) (flow kept wide flows) = HoldsFlow (way_by m goals stay) goals start t kept flows
valid_by m r goals start (witness Min stay label t) (floor kept wide values ranks) = HoldsFloor (way_by m goals stay) goals start t kept values ranks
valid_by m r goals start claim body = ⊥

abbrev pub IsValidBody : Mdp → ℕ → List Bool → Certificate → Type 0
IsValidBody m r goals c = valid_by m r goals (start_of c.init) c.claim c.body

-- the certificate belongs to the model and is valid: as many states, an entry of the claim's kind for each, the names of the claim are there,
-- and all rules hold for this reward model and these goals
pub record IsAccepted (m : Mdp) (c : Certificate) : Type 0 where
  pub states : c.states ≡ states_of m
  pub entries : IsTrue (is_body_of c.claim c.states c.body)
  pub reward : ℕ
  pub named : reward_place m c.claim ≡ Some reward
  pub goals : List Bool
  pub marked : goal_marks m c.claim ≡ Some goals
  pub init : init_check c.init (initial_of m) c.body ≡ verdict.Yes
  pub body : IsValidBody m reward goals c

-- on the kept states alone some strategy tree from the start comes close to the threshold or over it, also at a depth that the sum of the flows
-- bounds; by way of the states that stay, where these are named
abbrev pub flow_bound : Mdp → List Bool → ℕ → Option (List ℕ) → ℚ → List ℕ → List Flow → Type 0
flow_bound m goals start None t kept flows =
    SubMax m goals (kept_marks (states_of m) kept) start t × SubMaxWithin m goals (kept_marks (states_of m) kept) start t (flow_total flows)
flow_bound m goals start (Some stay) t kept flows =
    SubUntilMax m (stay_marks m stay) goals (kept_marks (states_of m) kept) start t
    × SubUntilMaxWithin m (stay_marks m stay) goals (kept_marks (states_of m) kept) start t (flow_total flows)

-- and each deep tree does
abbrev pub floor_bound : Mdp → List Bool → ℕ → Option (List ℕ) → ℚ → List ℕ → Type 0
floor_bound m goals start None t kept = SubMin m goals (kept_marks (states_of m) kept) start t
floor_bound m goals start (Some stay) t kept = SubUntilMin m (stay_marks m stay) goals (kept_marks (states_of m) kept) start t

-- the claim, for the reward model of place r and these goals: for upper bounds, that no strategy tree passes them; for a direction, that the
-- values are the greatest, or the least, probabilities of reaching a goal, also by way of some states alone, or rewards until a goal, and the policy comes close to them; that
-- the gains are the greatest, or the least, mean payoffs to within the spread; or that on the kept states alone some strategy tree from the
-- initial state, or each deep one, comes close to the threshold or over it, some at a depth that the sum of the flows bounds, also by way of some
-- states alone
abbrev pub bound_by : Mdp → ℕ → List Bool → ℕ → PlainClaim → PlainBody → Type 0
bound_by m r goals start (upper label) (bounds z) = Above m goals z
bound_by m r goals start (reach Max label) (policy z choices ranks) = ReachMax m goals z choices
bound_by m r goals start (reach Min label) (policy z choices ranks) = ReachMin m goals z choices
bound_by m r goals start (until Max stay label) (policy z choices ranks) = UntilMax m (stay_marks m stay) goals z choices
bound_by m r goals start (until Min stay label) (policy z choices ranks) = UntilMin m (stay_marks m stay) goals z choices
bound_by m r goals start (reward Max name label) (rewards v choices ranks) = RewardMax m r goals choices v
bound_by m r goals start (reward Min name label) (rewards v choices ranks) = RewardMin m r goals choices v
bound_by m r goals start (mean Max name) (gains g bound bias choices spread) = MeanMax m r g spread choices
bound_by m r goals start (mean Min name) (gains g bound bias choices spread) = MeanMin m r g spread choices
bound_by m r goals start (witness Max stay label t) (flow kept wide flows) = flow_bound m goals start stay t kept flows
bound_by m r goals start (witness Min stay label t) (floor kept wide values ranks) = floor_bound m goals start stay t kept
bound_by m r goals start claim body = ⊥

abbrev pub BoundOf : Mdp → ℕ → List Bool → Certificate → Type 0
BoundOf m r goals c = bound_by m r goals (start_of c.init) c.claim c.body

-- the claim of the certificate is true of the model
pub record IsBound (m : Mdp) (c : Certificate) : Type 0 where
  pub reward : ℕ
  pub named : reward_place m c.claim ≡ Some reward
  pub goals : List Bool
  pub marked : goal_marks m c.claim ≡ Some goals
  pub holds : BoundOf m reward goals c
