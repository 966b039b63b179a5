-- What a query of the best gain of an end component ends with, what each step of its path does, and what a best gain says of all policies and trees of the component.
use Rattle.std.specs.Prelude.{◌≡◌, ℕ, ◌<◌, ◌≤◌, true, List, Option, Result, Ok}
use Rattle.mdp_math.specs.Rational.{ℚ, ◌+ℚ◌, ◌*ℚ◌, ◌≤ℚ◌}
use Rattle.mdp_spec.specs.{Mdp.{Mdp, states_of}, Tree.{Tree}, Pay.{total}, Bounds.{whole}}
use Rattle.mdp_rows.specs.{declared.dir.Dir.{Dir}, declared.dir.Dir.TheVariants.{Max, Min}, Better.{IsAsGood}}
use Rattle.mdp_ends.specs.Ends.{in_part}
use Rattle.mdp_policy_iteration.specs.{Iteration.{next}, Path.{Round}}
use Rattle.mdp_wide.specs.Term.{WideTerm}
pub use Rattle.mdp_unichain.specs.Part.{IsPart}
use Rattle.mdp_unichain.specs.{Model.{Takes}, Improvement.{IsEvaluated}, Path.{Makes}}
use Rattle.mdp_gain.specs.{Query.{Answer, is_inner, inner_component, EndsSo}, Best.{IsBestInner}, Improvement.{IsRound, ImprovesTo}}

-- a query has exactly one end
abbrev pub HasOneEnd : Type 0
HasOneEnd =
    (dir : Dir) (m : Mdp) (parts : List (Option ℕ)) (i r : ℕ) → IsPart m parts i
    → (p : Result Answer WideTerm) × EndsSo dir m parts i r p × ((q : Result Answer WideTerm) → EndsSo dir m parts i r q → q ≡ p)

-- an answer has the best gain
abbrev pub AnswersAreBest : Type 0
AnswersAreBest = (dir : Dir) (m : Mdp) (parts : List (Option ℕ)) (i r : ℕ) (a : Answer) → IsPart m parts i → EndsSo dir m parts i r (Ok a) → IsBestInner dir m parts i r a

-- there is one best gain
abbrev pub HasOneGain : Type 0
HasOneGain =
    (dir : Dir) (m : Mdp) (parts : List (Option ℕ)) (i r : ℕ) (a b : Answer) → IsPart m parts i → IsBestInner dir m parts i r a → IsBestInner dir m parts i r b
    → b.gain ≡ a.gain

-- no policy of the component with one closed class has a better one
abbrev pub NoPolicyIsBetter : Type 0
NoPolicyIsBetter =
    (dir : Dir) (m : Mdp) (parts : List (Option ℕ)) (i r : ℕ) (a : Answer) → IsPart m parts i → IsBestInner dir m parts i r a
    → (policy : List ℕ) (t : ℕ) (gain : ℚ) (bias : ℕ → ℚ) → IsEvaluated (inner_component dir m parts i r) policy t gain bias → IsAsGood dir a.gain gain

-- the steps of a tree that takes choices of the component alone earn at most the greatest gain in the mean, up to an amount that doesn't depend on the
-- tree or on the number of steps
abbrev pub NoTreeEarnsMore : Type 0
NoTreeEarnsMore =
    (m : Mdp) (parts : List (Option ℕ)) (i r : ℕ) (a : Answer) → IsPart m parts i → IsBestInner Max m parts i r a
    → (spread : ℚ) × ((n u : ℕ) (t : Tree) (s : ℕ) → 1 ≤ u → s < states_of m → in_part parts i s ≡ true → Takes m (is_inner m parts i) u n t s
    → total m r u n t s ≤ℚ whole n *ℚ a.gain +ℚ spread)

-- and at least the least gain
abbrev pub NoTreeEarnsLess : Type 0
NoTreeEarnsLess =
    (m : Mdp) (parts : List (Option ℕ)) (i r : ℕ) (a : Answer) → IsPart m parts i → IsBestInner Min m parts i r a
    → (spread : ℚ) × ((n u : ℕ) (t : Tree) (s : ℕ) → 1 ≤ u → s < states_of m → in_part parts i s ≡ true → Takes m (is_inner m parts i) u n t s
    → whole n *ℚ a.gain ≤ℚ total m r u n t s +ℚ spread)

-- each step of a query's path leads to a better policy
abbrev pub StepImproves : Type 0
StepImproves =
    (dir : Dir) (m : Mdp) (parts : List (Option ℕ)) (i r : ℕ) (a b : Round) → IsPart m parts i → IsRound dir m parts i r a
    → Makes (inner_component dir m parts i r) a (next b) → ImprovesTo (inner_component dir m parts i r) a b

-- no policy comes twice on a query's path: two rounds with one policy are one round
abbrev pub NoPolicyTwice : Type 0
NoPolicyTwice =
    (dir : Dir) (m : Mdp) (parts : List (Option ℕ)) (i r : ℕ) (a b : Round) → IsPart m parts i → IsRound dir m parts i r a → IsRound dir m parts i r b
    → b.policy ≡ a.policy → b ≡ a
