-- Laws of what is due to a query, over the definitions alone.
use Rattle.std.specs.Prelude.{◌≡◌, ℕ, Bool, false, List, Option, Some, None, Ok}
use Rattle.mdp_math.specs.Rational.{ℚ}
use Rattle.mdp_spec.specs.{Labels.{place_of, marks_of}, Mdp.{Mdp}, Row.{IsMdp}, Bounds.{ReachMax, ReachMin, RewardMax, RewardMin, MeanMax, MeanMin}, Until.{UntilMax, UntilMin}}
use Rattle.mdp_rows.specs.{Limits.{IsModel}, Negative.{has_negative}, declared.dir.Dir.{Dir}, declared.dir.Dir.TheVariants.{Max, Min}, declared.rule.RowRule.{RowRule}}
use Rattle.mdp_farkas.specs.{Reach.{IsReach}, Reward.{IsReward}, Mean.{IsMean}}
use Rattle.mdp_reach.specs.Query.{Answer}
use Rattle.mdp_reward.specs.Query as rewarded
use Rattle.mdp_mean.specs.Query as averaged
use Rattle.mdp_cert.specs.Spelling.{text_of}
use Rattle.mdp_check.specs.Check.{stay_marks, way_by}
use Rattle.mdp_job.specs.Job.{PlainQuery, reach, until, reward, mean}
use Rattle.mdp_command.specs.{Accepted.{IsTrueClaim}, Said.{Said}, Shown.{IsShownOf}}
use Rattle.mdp_command_solve.specs.{Ways.{place_on_way}, Due.{certificate_of, reward_certificate_of, mean_certificate_of, IsQueryDue}, Solved.{IsPrinted}}

-- what is due to a query and to the model is one thing
abbrev pub IsDueOnce : Type 0
IsDueOnce = (dir : Dir) (query : PlainQuery) (m : Mdp) (said again : Said) → IsModel m → IsQueryDue dir query m said → IsQueryDue dir query m again → said ≡ again

-- where what `solve` prints is shown of a text and of the model's bytes, `check` accepts the text with them, and its claim is true
abbrev pub TextIsAccepted : Type 0
TextIsAccepted = (rule : RowRule) (dir : Dir) (query : PlainQuery) (model text : List ℕ) → IsShownOf (IsPrinted dir query) rule model text → IsTrueClaim rule model text

-- ---- reaching a label

-- the values are the greatest, or the least, probabilities of reaching a goal, by way of states with the label `stay` alone where there is one
abbrev pub IsBest : Dir → Option (List ℕ) → Mdp → List Bool → List ℚ → List ℕ → Type 0
IsBest Max None m goals = ReachMax m goals
IsBest Min None m goals = ReachMin m goals
IsBest Max (Some stay) m goals = UntilMax m (stay_marks m stay) goals
IsBest Min (Some stay) m goals = UntilMin m (stay_marks m stay) goals

-- a text that is due spells an answer that meets the rules, on what is left of the model for the way, and whose values are the best ones
pub record IsAnswerTo (dir : Dir) (stay : Option (List ℕ)) (label : List ℕ) (m : Mdp) (text : List ℕ) : Type 0 where
  pub place : ℕ
  pub found : place_on_way m stay label ≡ Some place
  pub answer : Answer
  pub spelled : text ≡ text_of (certificate_of dir stay label m answer)
  pub rules : IsReach dir (way_by m (marks_of m place) stay) (marks_of m place) answer.values answer.choices answer.ranks
  pub best : IsBest dir stay m (marks_of m place) answer.values answer.choices

-- where a text is due to a query, it is such a text
abbrev pub TextIsAnswer : Type 0
TextIsAnswer = (dir : Dir) (label : List ℕ) (m : Mdp) (text : List ℕ) → IsMdp m → IsQueryDue dir (reach label) m (Ok text) → IsAnswerTo dir None label m text

abbrev pub UntilTextIsAnswer : Type 0
UntilTextIsAnswer = (dir : Dir) (stay label : List ℕ) (m : Mdp) (text : List ℕ) → IsMdp m → IsQueryDue dir (until stay label) m (Ok text) → IsAnswerTo dir (Some stay) label m text

-- ---- the reward of a name until a label

-- the values are the greatest, or the least, rewards until a goal
abbrev pub IsBestReward : Dir → Mdp → ℕ → List Bool → rewarded.Answer → Type 0
IsBestReward Max m r goals a = RewardMax m r goals a.choices a.values
IsBestReward Min m r goals a = RewardMin m r goals a.choices a.values

pub record IsRewardAnswerTo (dir : Dir) (name label : List ℕ) (m : Mdp) (text : List ℕ) : Type 0 where
  pub named : ℕ
  pub named_so : place_of name m.names ≡ Some named
  pub place : ℕ
  pub found : place_of label m.labels ≡ Some place
  pub none_negative : has_negative m named ≡ false
  pub answer : rewarded.Answer
  pub spelled : text ≡ text_of (reward_certificate_of dir name label m answer)
  pub rules : IsReward dir m named (marks_of m place) answer.values answer.choices answer.ranks
  pub best : IsBestReward dir m named (marks_of m place) answer

abbrev pub RewardTextIsAnswer : Type 0
RewardTextIsAnswer = (dir : Dir) (name label : List ℕ) (m : Mdp) (text : List ℕ) → IsMdp m → IsQueryDue dir (reward name label) m (Ok text) → IsRewardAnswerTo dir name label m text

-- ---- the mean payoff of a name

-- the gains are the greatest, or the least, mean payoffs, to within the spread
abbrev pub IsBestMean : Dir → Mdp → ℕ → averaged.Answer → Type 0
IsBestMean Max m r a = MeanMax m r a.gains a.spread a.choices
IsBestMean Min m r a = MeanMin m r a.gains a.spread a.choices

pub record IsMeanAnswerTo (dir : Dir) (name : List ℕ) (m : Mdp) (text : List ℕ) : Type 0 where
  pub named : ℕ
  pub named_so : place_of name m.names ≡ Some named
  pub answer : averaged.Answer
  pub spelled : text ≡ text_of (mean_certificate_of dir name m answer)
  pub rules : IsMean dir m named answer.gains answer.bound answer.bias answer.spread answer.choices
  pub best : IsBestMean dir m named answer

abbrev pub MeanTextIsAnswer : Type 0
MeanTextIsAnswer = (dir : Dir) (name : List ℕ) (m : Mdp) (text : List ℕ) → IsModel m → IsQueryDue dir (mean name) m (Ok text) → IsMeanAnswerTo dir name m text
