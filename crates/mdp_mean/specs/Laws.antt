-- What a query of the mean payoff ends with.
use Rattle.std.specs.Prelude.{◌≡◌, ℕ, ◌<◌, length, Result, Ok}
use Rattle.mdp_spec.specs.{Mdp.{Mdp}, Bounds.{MeanMax, MeanMin}}
use Rattle.mdp_rows.specs.{Limits.{IsModel}, declared.dir.Dir.{Dir}, declared.dir.Dir.TheVariants.{Max, Min}}
use Rattle.mdp_wide.specs.Term.{WideTerm}
use Rattle.mdp_farkas.specs.Mean.{MeetsMean, IsMean}
use Rattle.mdp_claims.specs.declared.verdict.Verdict.TheVariants.{Yes}
use Rattle.mdp_mean.specs.{Terms.{Joining}, Join.{Joined, written_join}, Query.{Answer, answer_of, checked, JoinEndsSo, IsJoining, EndsSo}}

-- a model with reward name r
pub record HasReward (m : Mdp) (r : ℕ) : Type 0 where
  pub model : IsModel m
  pub named : r < length m.names

-- it has one end at most
abbrev pub HasOneEnd : Type 0
HasOneEnd = (dir : Dir) (m : Mdp) (r : ℕ) (p q : Result Answer WideTerm) → HasReward m r → EndsSo dir m r p → EndsSo dir m r q → q ≡ p

-- and has one
abbrev pub HasAnEnd : Type 0
HasAnEnd = (dir : Dir) (m : Mdp) (r : ℕ) → HasReward m r → (p : Result Answer WideTerm) × EndsSo dir m r p

-- ---- the join

-- where each part has an answer, the query ends as their join does
abbrev pub JoinEndsQuery : Type 0
JoinEndsQuery = (dir : Dir) (m : Mdp) (r : ℕ) (j : Joining) (p : Result Answer WideTerm) → IsJoining dir m r j → JoinEndsSo j p → EndsSo dir m r p

-- what is joined meets the rules of certificates in exact numbers, also where a term of its check is past width
abbrev pub JoinedMeetsRules : Type 0
JoinedMeetsRules =
    (dir : Dir) (m : Mdp) (r : ℕ) (j : Joining) (y : Joined) → HasReward m r → IsJoining dir m r j → written_join j ≡ Ok y
    → MeetsMean dir m r j.gains y.bound y.bias y.spread j.policy

-- what such a join makes, without a term past width, and the check of it says yes
pub record IsAcceptedJoin (dir : Dir) (m : Mdp) (r : ℕ) (a : Answer) : Type 0 where
  pub join : Joining
  pub joining : IsJoining dir m r join
  pub values : Joined
  pub made : written_join join ≡ Ok values
  pub is : a ≡ answer_of join values
  pub accepted : checked dir m r a ≡ Yes

-- each answer is such a one
abbrev pub AnswersAreJoined : Type 0
AnswersAreJoined = (dir : Dir) (m : Mdp) (r : ℕ) (a : Answer) → EndsSo dir m r (Ok a) → IsAcceptedJoin dir m r a

-- ---- an answer

-- an answer meets the rules of certificates, and no term of its check is past width
abbrev pub AnswersMeetRules : Type 0
AnswersMeetRules = (dir : Dir) (m : Mdp) (r : ℕ) (a : Answer) → HasReward m r → EndsSo dir m r (Ok a) → IsMean dir m r a.gains a.bound a.bias a.spread a.choices

-- so no strategy earns more than the gain in the mean, and the policy earns it, up to the spread
abbrev pub AnswersAreGreatest : Type 0
AnswersAreGreatest = (m : Mdp) (r : ℕ) (a : Answer) → HasReward m r → EndsSo Max m r (Ok a) → MeanMax m r a.gains a.spread a.choices

-- and none earns less
abbrev pub AnswersAreLeast : Type 0
AnswersAreLeast = (m : Mdp) (r : ℕ) (a : Answer) → HasReward m r → EndsSo Min m r (Ok a) → MeanMin m r a.gains a.spread a.choices
