-- What a query of reachability ends with.
use Rattle.std.specs.Prelude.{◌≡◌, ℕ, Bool, List, Result, Ok}
use Rattle.mdp_spec.specs.{Mdp.{Mdp}, Bounds.{ReachMax, ReachMin}, Row.{IsMdp}}
use Rattle.mdp_rows.specs.{declared.dir.Dir.{Dir}, declared.dir.Dir.TheVariants.{Max, Min}}
use Rattle.mdp_wide.specs.Term.{WideTerm}
use Rattle.mdp_farkas.specs.Reach.{IsReach}
use Rattle.mdp_reach.specs.{Query.{Answer, EndsSo}, Round.{EndsWithRound}}

-- it has one end at most
abbrev pub HasOneEnd : Type 0
HasOneEnd = (dir : Dir) (m : Mdp) (goals : List Bool) (r q : Result Answer WideTerm) → EndsSo dir m goals r → EndsSo dir m goals q → q ≡ r

-- it has one for each model
abbrev pub HasAnEnd : Type 0
HasAnEnd = (dir : Dir) (m : Mdp) (goals : List Bool) → IsMdp m → (r : Result Answer WideTerm) × EndsSo dir m goals r

-- its path ends in one round at most
abbrev pub HasOneRound : Type 0
HasOneRound = (dir : Dir) (m : Mdp) (goals : List Bool) (n k : ℕ) (r q : Result Answer WideTerm) → EndsWithRound dir m goals n r → EndsWithRound dir m goals k q → (k ≡ n) × (q ≡ r)

-- and in some round
abbrev pub HasARound : Type 0
HasARound = (dir : Dir) (m : Mdp) (goals : List Bool) → IsMdp m → (n : ℕ) × (r : Result Answer WideTerm) × EndsWithRound dir m goals n r

-- an answer meets the rules of certificates, and no term of its check is past width
abbrev pub AnswersMeetRules : Type 0
AnswersMeetRules = (dir : Dir) (m : Mdp) (goals : List Bool) (a : Answer) → IsMdp m → EndsSo dir m goals (Ok a) → IsReach dir m goals a.values a.choices a.ranks

-- so its values are the greatest probabilities of reaching a goal, or the least ones
abbrev pub AnswersAreGreatest : Type 0
AnswersAreGreatest = (m : Mdp) (goals : List Bool) (a : Answer) → IsMdp m → EndsSo Max m goals (Ok a) → ReachMax m goals a.values a.choices

abbrev pub AnswersAreLeast : Type 0
AnswersAreLeast = (m : Mdp) (goals : List Bool) (a : Answer) → IsMdp m → EndsSo Min m goals (Ok a) → ReachMin m goals a.values a.choices
