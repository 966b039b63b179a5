-- What policy iteration does: each policy of its path leaves its active nodes, has one list of values, and better ones than the policy before;
-- so the path ends, and the policy at its end is as good as any.
use Rattle.std.specs.Prelude.{◌≡◌, ℕ, ◌<◌, true, List, length, slice_index, Result, Ok}
use Rattle.mdp_math.specs.Rational.{ℚ}
use Rattle.mdp_spec.specs.Mdp.{value_at}
use Rattle.mdp_elim.specs.Laws.{ExactlyOne}
use Rattle.mdp_policy_iteration.specs.{Iteration.{next, EndsWith}, Problem.{Problem, given, count, node_at, choices_at, choice_at, worth, IsProblem, IsPolicy}}
use Rattle.mdp_policy_iteration.specs.{Values.{IsValue, CanLeave, KeepsLeaving}, Path.{Round, Found, Refusal, written_values, path_step}}
use Rattle.mdp_rows.specs.Better.{IsBetter, IsAsGood}

-- a problem, and a start from which each policy of the path leaves its active nodes
pub record IsSolvable (p : Problem) (start : List ℕ) : Type 0 where
  pub problem : IsProblem p
  pub policy : IsPolicy p start
  pub leaves : CanLeave p start
  pub keeps : KeepsLeaving p

-- round 0
abbrev pub first : List ℕ → Round
first start = record { number = 0; policy = start }

-- ---- a policy

-- a policy that leaves its active nodes has exactly one list of values
abbrev pub HasOneValue : Type 0
HasOneValue = (p : Problem) (policy : List ℕ) → IsProblem p → IsPolicy p policy → CanLeave p policy → ExactlyOne (IsValue p policy)

-- and where no term is past width, written evaluation gives it
abbrev pub EvaluatesExactly : Type 0
EvaluatesExactly =
    (p : Problem) (policy : List ℕ) (x : List ℚ) → IsProblem p → IsPolicy p policy → CanLeave p policy → written_values p policy ≡ Ok x → IsValue p policy x

-- ---- the next policy

-- it keeps what is given; its values are as good at each node, and better at some
pub record Improves (p : Problem) (before after : List ℕ) : Type 0 where
  pub solvable : IsSolvable p after
  pub given_kept : (s : ℕ) (v : ℚ) → s < count p → node_at p s ≡ given v → slice_index after s ≡ slice_index before s
  pub as_good : (x y : List ℚ) → IsValue p before x → IsValue p after y → (s : ℕ) → IsAsGood p.dir (value_at y s) (value_at x s)
  pub better : (x y : List ℚ) → IsValue p before x → IsValue p after y → (s : ℕ) × (s < count p) × IsBetter p.dir (value_at y s) (value_at x s)

abbrev pub StepsImprove : Type 0
StepsImprove = (p : Problem) (a b : Round) → IsSolvable p a.policy → path_step p a ≡ next b → Improves p a.policy b.policy

-- ---- the path

-- it has exactly one end
abbrev pub HasOneEnd : Type 0
HasOneEnd =
    (p : Problem) (start : List ℕ) → IsSolvable p start
    → (r : Result Found Refusal) × EndsWith (path_step p) (first start) r × ((q : Result Found Refusal) → EndsWith (path_step p) (first start) q → q ≡ r)

-- the policy has these values, and no candidate of a node is worth more (for Min: less) than the node
pub record IsBest (p : Problem) (policy : List ℕ) (x : List ℚ) : Type 0 where
  pub is : IsPolicy p policy
  pub leaves : CanLeave p policy
  pub values : IsValue p policy x
  pub none_better :
      (s c : ℕ) → s < count p → c < length (choices_at p s) → (choice_at p s c).candidate ≡ true → IsAsGood p.dir (value_at x s) (worth x (choice_at p s c).move)

-- a best policy with its values, which at nodes whose value is given has what the start has
pub record IsBestFrom (p : Problem) (start policy : List ℕ) (x : List ℚ) : Type 0 where
  pub best : IsBest p policy x
  pub given_kept : (s : ℕ) (v : ℚ) → s < count p → node_at p s ≡ given v → slice_index policy s ≡ slice_index start s

-- where no term is past width, the path ends at such a one
abbrev pub EndsAtBest : Type 0
EndsAtBest =
    (p : Problem) (start : List ℕ) (found : Found) → IsSolvable p start → EndsWith (path_step p) (first start) (Ok found)
    → IsBestFrom p start found.policy found.values

-- a best policy is as good at each node as any other policy that leaves its active nodes
abbrev pub BestOfAll : Type 0
BestOfAll =
    (p : Problem) (policy other : List ℕ) (x y : List ℚ) → IsProblem p → IsBest p policy x → IsPolicy p other → CanLeave p other → IsValue p other y
    → (s : ℕ) → IsAsGood p.dir (value_at x s) (value_at y s)
