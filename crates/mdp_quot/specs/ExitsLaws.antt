-- What the two queries end with.
use Rattle.std.specs.Prelude.{◌≡◌, ℕ, ◌<◌, List, length, Result, Ok}
use Rattle.mdp_math.specs.Rational.{ℚ, ◌≤ℚ◌}
use Rattle.mdp_spec.specs.Mdp.{value_at}
use Rattle.mdp_elim.specs.Laws.{ExactlyOne}
use Rattle.mdp_policy_iteration.specs.{Problem.{Problem}, Values.{IsValue, CanLeave}}
use Rattle.mdp_rows.specs.{declared.dir.Dir.{Dir}, Better.{IsAsGood}}
use Rattle.mdp_wide.specs.Term.{WideTerm}
use Rattle.mdp_quot.specs.{Quotient.{Quotient, IsChosen}, OfModel.{IsOfModel}, Problem.{steps_problem, outer_problem}, Steps.{StepsEndSo, IsLongest, IsCounted}}
use Rattle.mdp_quot.specs.Outer.{Answer, OuterEndSo, IsOuterPolicy, IsWorth, IsBestOuter}

-- each query has one end at most
abbrev pub StepsHaveOneEnd : Type 0
StepsHaveOneEnd = (q : Quotient) (p r : Result (List ℚ) WideTerm) → StepsEndSo q p → StepsEndSo q r → r ≡ p

abbrev pub OuterHasOneEnd : Type 0
OuterHasOneEnd = (dir : Dir) (q : Quotient) (gains : List ℚ) (p r : Result Answer WideTerm) → OuterEndSo dir q gains p → OuterEndSo dir q gains r → r ≡ p

-- and has one over the quotient of a model
abbrev pub StepsEnd : Type 0
StepsEnd = (q : Quotient) → IsOfModel q → (r : Result (List ℚ) WideTerm) × StepsEndSo q r

abbrev pub OuterEnds : Type 0
OuterEnds = (dir : Dir) (q : Quotient) (gains : List ℚ) → IsOfModel q → (r : Result Answer WideTerm) × OuterEndSo dir q gains r

-- where that is an answer, it is the greatest number of exits, or the best gains
abbrev pub StepsAreLongest : Type 0
StepsAreLongest = (q : Quotient) (n : List ℚ) → IsOfModel q → StepsEndSo q (Ok n) → IsLongest q n

abbrev pub OuterIsBest : Type 0
OuterIsBest = (dir : Dir) (q : Quotient) (gains : List ℚ) (a : Answer) → IsOfModel q → OuterEndSo dir q gains (Ok a) → IsBestOuter dir q gains a

-- so no choice of exits takes more of them
abbrev pub NoneTakesMore : Type 0
NoneTakesMore =
    (q : Quotient) (n : List ℚ) (chosen : List ℕ) (x : List ℚ) → IsOfModel q → IsLongest q n → IsCounted q chosen x
    → (k : ℕ) → k < length q.exits → value_at x k ≤ℚ value_at n k

-- and no policy of exits comes to better gains
abbrev pub NoneIsBetter : Type 0
NoneIsBetter =
    (dir : Dir) (q : Quotient) (gains : List ℚ) (a b : Answer) → IsOfModel q → IsBestOuter dir q gains a → IsOuterPolicy q b.policy → IsWorth q gains b
    → (k : ℕ) → k < length q.exits → IsAsGood dir (value_at a.values k) (value_at b.values k)

-- the policy leaves its active nodes: from each of them its chain comes to a node that stops; so the system of its values has exactly one solution
abbrev pub LeavesWithOneValue : Problem → List ℕ → Type 0
LeavesWithOneValue p policy = CanLeave p policy × ExactlyOne (IsValue p policy)

-- so does each choice of exits, and each policy of exits
abbrev pub ChosenExitsLeave : Type 0
ChosenExitsLeave = (q : Quotient) (chosen : List ℕ) → IsOfModel q → IsChosen q chosen → LeavesWithOneValue (steps_problem q) chosen

abbrev pub OuterPoliciesLeave : Type 0
OuterPoliciesLeave =
    (dir : Dir) (q : Quotient) (gains : List ℚ) (policy : List ℕ) → IsOfModel q → IsOuterPolicy q policy → LeavesWithOneValue (outer_problem dir q gains) policy
