-- What a query of the reward until a goal ends with.
use Rattle.std.specs.Prelude.{◌≡◌, ℕ, ◌<◌, Bool, false, List, length, Result, Ok}
use Rattle.mdp_spec.specs.{Mdp.{Mdp}, Bounds.{RewardMax, RewardMin}, Row.{IsMdp}}
use Rattle.mdp_rows.specs.{Negative.{has_negative}, declared.dir.Dir.{Dir}, declared.dir.Dir.TheVariants.{Max, Min}}
use Rattle.mdp_wide.specs.Term.{WideTerm}
use Rattle.mdp_farkas.specs.Reward.{IsReward}
use Rattle.mdp_reward.specs.Query.{Answer, EndsSo}

-- it has one end at most
abbrev pub HasOneEnd : Type 0
HasOneEnd = (dir : Dir) (m : Mdp) (r : ℕ) (goals : List Bool) (p q : Result Answer WideTerm) → EndsSo dir m r goals p → EndsSo dir m r goals q → q ≡ p

-- a model with reward name r, under which no reward is below 0
pub record HasRewards (m : Mdp) (r : ℕ) : Type 0 where
  pub model : IsMdp m
  pub named : r < length m.names
  pub none_negative : has_negative m r ≡ false

-- it has one for each such model
abbrev pub HasAnEnd : Type 0
HasAnEnd = (dir : Dir) (m : Mdp) (r : ℕ) (goals : List Bool) → HasRewards m r → (q : Result Answer WideTerm) × EndsSo dir m r goals q

-- an answer meets the rules of certificates, and no term of its check is past width
abbrev pub AnswersMeetRules : Type 0
AnswersMeetRules =
    (dir : Dir) (m : Mdp) (r : ℕ) (goals : List Bool) (a : Answer) → HasRewards m r → EndsSo dir m r goals (Ok a) → IsReward dir m r goals a.values a.choices a.ranks

-- so its values are the greatest rewards until a goal, or the least ones
abbrev pub AnswersAreGreatest : Type 0
AnswersAreGreatest = (m : Mdp) (r : ℕ) (goals : List Bool) (a : Answer) → HasRewards m r → EndsSo Max m r goals (Ok a) → RewardMax m r goals a.choices a.values

abbrev pub AnswersAreLeast : Type 0
AnswersAreLeast = (m : Mdp) (r : ℕ) (goals : List Bool) (a : Answer) → HasRewards m r → EndsSo Min m r goals (Ok a) → RewardMin m r goals a.choices a.values
