-- What holding a certificate of bounds of a subsystem against a model answers, and what a yes means.
use Rattle.std.specs.Prelude.{◌≡◌, ℕ, true, Bool, List, Option, Some, None, ◌==◌, if◌then◌else◌}
use Rattle.mdp_math.specs.Rational.{ℚ}
use Rattle.mdp_spec.specs.{Mdp.{Mdp, states_of}, Labels.{initial_of}, Bounds.{SubMax, SubMin}}
use Rattle.mdp_rows.specs.{declared.dir.Dir.{Dir}, declared.dir.Dir.TheVariants.{Max, Min}}
use Rattle.mdp_farkas.specs.{Initial.{state_check}, Verdict.{verdict_of}}
use Rattle.mdp_claims.specs.declared.verdict.Verdict.{Verdict}
use Rattle.mdp_subsystem_rules.specs.Until.{SubUntilMax, SubUntilMin}
use Rattle.mdp_check.specs.{Check.{goal_marks, stay_marks, way_by, answer_of, after_init}, declared.answer.Answer.{Answer}}
use Rattle.mdp_check.specs.declared.answer.Answer.TheVariants.{NoLabel, Size}
use Rattle.mdp_subsystem_bounds.specs.{Cert.{Certificate, plain_claim, states_in, kept_states}, Rules.{subsystem_checks, AreSubsystemBounds}}

-- ---- the answer

-- what the rules from rule 2 on say, on the model or on what is left of it for the way
abbrev pub verdict_on : Mdp → List Bool → Certificate → Verdict
verdict_on m goals c =
    verdict_of (
    subsystem_checks c.claim.dir (way_by m goals c.claim.stay) goals c.start c.claim.threshold (kept_states c.lists.marks) c.lists.lower c.lists.choices c.lists.ranks)

-- rule 1, that the line `init` names the model's one initial state, comes first
abbrev pub at_goals : Mdp → Certificate → Option (List Bool) → Answer
at_goals m c None = NoLabel
at_goals m c (Some goals) = answer_of (after_init (state_check c.start (initial_of m) true) (verdict_on m goals c))

-- the numbers of states, then the labels, then the rules in their order
abbrev pub answer_to : Mdp → Certificate → Answer
answer_to m c = if states_in c == states_of m then at_goals m c (goal_marks m (plain_claim c.claim)) else Size

-- ---- what yes means

-- the certificate belongs to the model and is valid: as many states, the labels of the claim are there, and all rules hold
pub record IsAccepted (m : Mdp) (c : Certificate) : Type 0 where
  pub states : states_in c ≡ states_of m
  pub goals : List Bool
  pub marked : goal_marks m (plain_claim c.claim) ≡ Some goals
  pub init : initial_of m ≡ Some c.start
  pub rules :
      AreSubsystemBounds c.claim.dir (way_by m goals c.claim.stay) goals c.start c.claim.threshold (kept_states c.lists.marks) c.lists.lower c.lists.choices c.lists.ranks

-- on the kept states alone some policy from the start comes close to the threshold or over it, or each deep one does; by way of the states that stay, where
-- these are named
abbrev pub Holds : Dir → Option (List ℕ) → Mdp → List Bool → List Bool → ℕ → ℚ → Type 0
Holds Max None m = SubMax m
Holds Min None m = SubMin m
Holds Max (Some stay) m = SubUntilMax m (stay_marks m stay)
Holds Min (Some stay) m = SubUntilMin m (stay_marks m stay)

-- the claim of the certificate is true of the model: what the claim of a witness says
pub record IsBound (m : Mdp) (c : Certificate) : Type 0 where
  pub goals : List Bool
  pub marked : goal_marks m (plain_claim c.claim) ≡ Some goals
  pub holds : Holds c.claim.dir c.claim.stay m goals (kept_states c.lists.marks) c.start c.claim.threshold
