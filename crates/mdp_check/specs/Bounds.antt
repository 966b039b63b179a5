-- What holding a certificate of bounds against a model answers, and what a yes means.
use Rattle.std.specs.Prelude.{◌≡◌, ℕ, Bool, IsTrue, List, Option, Some, None, ◌==◌, if◌then◌else◌}
use Rattle.mdp_spec.specs.{Mdp.{Mdp, states_of}, Labels.{initial_of}}
use Rattle.mdp_spec.specs.Until.{UntilMaxBetween, UntilMinBetween}
use Rattle.mdp_spec.specs.Between.{ReachMaxBetween, ReachMinBetween, RewardMaxBetween, RewardMinBetween, MeanMaxBetween, MeanMinBetween}
use Rattle.mdp_rows.specs.declared.dir.Dir.TheVariants.{Max, Min}
use Rattle.mdp_farkas.specs.{Initial.{init_fault}, Verdict.{verdict_of}}
use Rattle.mdp_claims.specs.declared.verdict.Verdict.{Verdict}
use Rattle.mdp_claims.specs.declared.verdict.Verdict.TheVariants as verdict
use Rattle.mdp_bounds.specs.{Reach.{bounds_checks, IsReachBounds}, Reward.{reward_bounds_checks, IsRewardBounds}, Mean.{mean_bounds_checks, IsMeanBounds}}
use Rattle.mdp_cert.specs.{Cert.{PlainClaim, reach, until, reward, mean}, BoundsCert.{PlainBounds, probabilities, rewards, gains, Certificate, is_body_of}}
use Rattle.mdp_check.specs.{Check.{reward_place, goal_marks, stay_marks, way_of, answer_of, after_init}, BoundsInitial.{bounds_init_check}, declared.answer.Answer.{Answer}}
use Rattle.mdp_check.specs.declared.answer.Answer.TheVariants.{NoReward, NoLabel, Size}

-- ---- the answer

-- what the rules of the claim from rule 2 on say of the body, for the reward model of place r and these goals; of another claim's body, that it isn't one
abbrev pub bounds_verdict_by : Mdp → ℕ → List Bool → PlainClaim → PlainBounds → Verdict
bounds_verdict_by m r goals (reach dir label) (probabilities lower upper choices ranks) = verdict_of (bounds_checks dir m goals lower upper choices ranks)
bounds_verdict_by m r goals (until dir stay label) (probabilities lower upper choices ranks) = verdict_of (bounds_checks dir (way_of m goals stay) goals lower upper choices ranks)
bounds_verdict_by m r goals (reward dir name label) (rewards lower upper choices ranks) = verdict_of (reward_bounds_checks dir m r goals lower upper choices ranks)
bounds_verdict_by m r goals (mean dir name) (gains lower upper bound bias choices spread) = verdict_of (mean_bounds_checks dir m r lower upper bound bias spread choices)
bounds_verdict_by m r goals claim body = init_fault None

-- a body that isn't the claim's, or that hasn't an entry per state, stands in no certificate; it would be refused
abbrev pub bounds_verdict : Mdp → ℕ → List Bool → Certificate → Verdict
bounds_verdict m r goals c = if is_body_of c.claim c.states c.body then bounds_verdict_by m r goals c.claim c.body else init_fault None

abbrev pub bounds_at_reward : Mdp → Certificate → List Bool → Option ℕ → Answer
bounds_at_reward m c goals None = NoReward
bounds_at_reward m c goals (Some r) = answer_of (after_init (bounds_init_check c.init (initial_of m) c.body) (bounds_verdict m r goals c))

abbrev pub bounds_at_goals : Mdp → Certificate → Option (List Bool) → Answer
bounds_at_goals m c None = NoLabel
bounds_at_goals m c (Some goals) = bounds_at_reward m c goals (reward_place m c.claim)

-- the numbers of states, then the label, then the reward model, then the rules in their order
abbrev pub bounds_answer_to : Mdp → Certificate → Answer
bounds_answer_to m c = if c.states == states_of m then bounds_at_goals m c (goal_marks m c.claim) else Size

-- ---- what yes means

-- the rules of the claim from rule 2 on hold in exact numbers, and no sum that a check makes is past width
abbrev pub valid_bounds_by : Mdp → ℕ → List Bool → PlainClaim → PlainBounds → Type 0
valid_bounds_by m r goals (reach dir label) (probabilities lower upper choices ranks) = IsReachBounds dir m goals lower upper choices ranks
valid_bounds_by m r goals (until dir stay label) (probabilities lower upper choices ranks) = IsReachBounds dir (way_of m goals stay) goals lower upper choices ranks
valid_bounds_by m r goals (reward dir name label) (rewards lower upper choices ranks) = IsRewardBounds dir m r goals lower upper choices ranks
valid_bounds_by m r goals (mean dir name) (gains lower upper bound bias choices spread) = IsMeanBounds dir m r lower upper bound bias spread choices
valid_bounds_by m r goals claim body = ⊥

abbrev pub AreValidBounds : Mdp → ℕ → List Bool → Certificate → Type 0
AreValidBounds m r goals c = valid_bounds_by m r goals c.claim c.body

-- the certificate belongs to the model and is valid: as many states, an entry of the claim's kind for each, the names of the claim are there,
-- and all rules hold for this reward model and these goals
pub record IsBoundsAccepted (m : Mdp) (c : Certificate) : Type 0 where
  pub states : c.states ≡ states_of m
  pub entries : IsTrue (is_body_of c.claim c.states c.body)
  pub reward : ℕ
  pub named : reward_place m c.claim ≡ Some reward
  pub goals : List Bool
  pub marked : goal_marks m c.claim ≡ Some goals
  pub init : bounds_init_check c.init (initial_of m) c.body ≡ verdict.Yes
  pub body : AreValidBounds m reward goals c

-- the claim, for the reward model of place r and these goals: for its direction, that the greatest, or the least, probabilities of reaching a goal,
-- or rewards until a goal, or mean payoffs to within the spread, lie between the lower and the upper values, and that the policy's do
abbrev pub between_by : Mdp → ℕ → List Bool → PlainClaim → PlainBounds → Type 0
between_by m r goals (reach Max label) (probabilities lower upper choices ranks) = ReachMaxBetween m goals lower upper choices
between_by m r goals (reach Min label) (probabilities lower upper choices ranks) = ReachMinBetween m goals lower upper choices
between_by m r goals (until Max stay label) (probabilities lower upper choices ranks) = UntilMaxBetween m (stay_marks m stay) goals lower upper choices
between_by m r goals (until Min stay label) (probabilities lower upper choices ranks) = UntilMinBetween m (stay_marks m stay) goals lower upper choices
between_by m r goals (reward Max name label) (rewards lower upper choices ranks) = RewardMaxBetween m r goals choices lower upper
between_by m r goals (reward Min name label) (rewards lower upper choices ranks) = RewardMinBetween m r goals choices lower upper
between_by m r goals (mean Max name) (gains lower upper bound bias choices spread) = MeanMaxBetween m r lower upper spread choices
between_by m r goals (mean Min name) (gains lower upper bound bias choices spread) = MeanMinBetween m r lower upper spread choices
between_by m r goals claim body = ⊥

abbrev pub LiesBetween : Mdp → ℕ → List Bool → Certificate → Type 0
LiesBetween m r goals c = between_by m r goals c.claim c.body

-- the claim of the certificate is true of the model
pub record IsBoundsTrue (m : Mdp) (c : Certificate) : Type 0 where
  pub reward : ℕ
  pub named : reward_place m c.claim ≡ Some reward
  pub goals : List Bool
  pub marked : goal_marks m c.claim ≡ Some goals
  pub holds : LiesBetween m reward goals c
