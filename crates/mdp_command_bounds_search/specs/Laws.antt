-- Laws of what is due to `bounds`, over the definitions alone.
use Rattle.std.specs.Prelude.{◌≡◌, ℕ, List, Some, None, Ok, IsOk}
use Rattle.mdp_spec.specs.Between.{ReachMaxBetween, ReachMinBetween, RewardMaxBetween, RewardMinBetween, MeanMaxBetween, MeanMinBetween}
use Rattle.mdp_spec.specs.Until.{UntilMaxBetween, UntilMinBetween}
use Rattle.mdp_spec.specs.{Labels.{place_of, marks_of}, Mdp.{Mdp, states_of}, Row.{IsMdp}}
use Rattle.mdp_rows.specs.{Limits.{IsModel}, declared.dir.Dir.{Dir}, declared.dir.Dir.TheVariants.{Max, Min}, declared.rule.RowRule.{RowRule}}
use Rattle.mdp_cert.specs.{BoundsCert.{PlainBounds, probabilities, rewards, gains}, BoundsSpelling.{text_of}, declared.init.BoundsInit.{BoundsInit}}
use Rattle.mdp_job.specs.Job.{PlainQuery, reach, until, reward, mean}
use Rattle.mdp_command.specs.{Accepted.{IsTrueClaimBy}, Kinds.{between}, Said.{Said}, Shown.{IsShownOf}}
use Rattle.mdp_command_bounds_search.specs.{Due.{claim_of, fault_of, IsBoundsDue}, Shown.{IsBoundsPrinted}}

-- some text is due to each query that fits its model, with any digits, and all that is shown of what `bounds` prints is shown of it: it reads as its
-- certificate, the rules hold and the claim is true, and the values are as near as the digits say, or the exact query is too wide
abbrev pub HasAText : Type 0
HasAText =
    (dir : Dir) (query : PlainQuery) (digits : ℕ) (m : Mdp) → IsModel m → fault_of query m ≡ None
    → (text : List ℕ) × IsBoundsDue dir query m (Ok text) × IsBoundsPrinted dir query digits m text

-- the query's names are those of the model, and the greatest, or the least, probabilities of reaching the label, also by way of states of another label
-- alone, rewards of the name until the label, or mean payoffs of the name, lie between the lower and the upper values, and those of the policy do
abbrev pub LieBetween : Dir → PlainQuery → Mdp → PlainBounds → Type 0
LieBetween Max (reach label) m (probabilities lower upper policy ranks) =
    (l : ℕ) × (place_of label m.labels ≡ Some l) × ReachMaxBetween m (marks_of m l) lower upper policy
LieBetween Min (reach label) m (probabilities lower upper policy ranks) =
    (l : ℕ) × (place_of label m.labels ≡ Some l) × ReachMinBetween m (marks_of m l) lower upper policy
LieBetween Max (until stay label) m (probabilities lower upper policy ranks) =
    (a : ℕ) × (l : ℕ) × (place_of stay m.labels ≡ Some a) × (place_of label m.labels ≡ Some l) × UntilMaxBetween m (marks_of m a) (marks_of m l) lower upper policy
LieBetween Min (until stay label) m (probabilities lower upper policy ranks) =
    (a : ℕ) × (l : ℕ) × (place_of stay m.labels ≡ Some a) × (place_of label m.labels ≡ Some l) × UntilMinBetween m (marks_of m a) (marks_of m l) lower upper policy
LieBetween Max (reward name label) m (rewards lower upper policy ranks) =
    (r : ℕ) × (l : ℕ) × (place_of name m.names ≡ Some r) × (place_of label m.labels ≡ Some l) × RewardMaxBetween m r (marks_of m l) policy lower upper
LieBetween Min (reward name label) m (rewards lower upper policy ranks) =
    (r : ℕ) × (l : ℕ) × (place_of name m.names ≡ Some r) × (place_of label m.labels ≡ Some l) × RewardMinBetween m r (marks_of m l) policy lower upper
LieBetween Max (mean name) m (gains lower upper bound bias policy spread) = (r : ℕ) × (place_of name m.names ≡ Some r) × MeanMaxBetween m r lower upper spread policy
LieBetween Min (mean name) m (gains lower upper bound bias policy spread) = (r : ℕ) × (place_of name m.names ≡ Some r) × MeanMinBetween m r lower upper spread policy
LieBetween dir query m body = ⊥

-- the text of lower and upper values and a policy, one of each for each state, with what shows them; the best values lie between them
pub record IsAnswerTo (dir : Dir) (query : PlainQuery) (m : Mdp) (text : List ℕ) : Type 0 where
  pub init : BoundsInit
  pub body : PlainBounds
  pub spelled : text ≡ text_of (record { claim = claim_of dir query; states = states_of m; init = init; body = body })
  pub between : LieBetween dir query m body

-- a text that is due is such a text
abbrev pub TextLiesBetween : Type 0
TextLiesBetween = (dir : Dir) (query : PlainQuery) (m : Mdp) (text : List ℕ) → IsMdp m → IsBoundsDue dir query m (Ok text) → IsAnswerTo dir query m text

-- where a text is due, only texts are
abbrev pub OnlyTextsAreDue : Type 0
OnlyTextsAreDue = (dir : Dir) (query : PlainQuery) (m : Mdp) (text : List ℕ) (said : Said) → IsBoundsDue dir query m (Ok text) → IsBoundsDue dir query m said → IsOk said

-- `bounds-check` accepts a text of which this is shown, with the bytes of the model, and its claim is true: the best values lie between its lower and its
-- upper values
abbrev pub TextIsAccepted : Type 0
TextIsAccepted =
    (rule : RowRule) (dir : Dir) (query : PlainQuery) (digits : ℕ) (model text : List ℕ) → IsShownOf (IsBoundsPrinted dir query digits) rule model text
    → IsTrueClaimBy between rule model text
