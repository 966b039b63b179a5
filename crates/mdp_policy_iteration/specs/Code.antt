-- What the code's contracts say beside the definitions.
use Rattle.std.specs.{Prelude.{◌≡◌, ℕ, ◌<◌, Bool, true, List, length, Option, Some, if◌then◌else◌}, Coded.{Unit-prop}}
use Rattle.mdp_math.specs.{Rational.{ℚ}, Written.{written_add, written_mul, ◌>>=◌}}
use Rattle.mdp_spec.specs.Mdp.{value_at}
use Rattle.mdp_elim.specs.System.{is_active}
use Rattle.std.proofs.Props.{props}
use Rattle.mdp_policy_iteration.specs.Problem.{Problem, Node, given, decision, Move, count, move_by, fits_by, node_at, IsCandidate, IsPolicy}
use Rattle.mdp_policy_iteration.specs.{Candidates.{Best}, Path.{fits}, declared.leader.Leader.{Leader}}

-- the node has choice c, or its value is given
abbrev pub CanTake : Node → ℕ → Type 0
CanTake (given v) c = Unit {0}
CanTake (decision choices) c = c < length choices

-- what choice c does at node s, and whether the terms of its row are in width
abbrev pub move_at : Problem → ℕ → ℕ → Move
move_at p s c = move_by (node_at p s) c

abbrev pub fits_at : Problem → ℕ → ℕ → Bool
fits_at p s c = fits_by (node_at p s) c

-- the terms of all rows that the policy takes are in width
abbrev pub RowsFit : Problem → List ℕ → Type 0
RowsFit p policy = (s : ℕ) → s < count p → fits p policy s ≡ true

-- acc, and the entry's probability times the value of its target where that isn't active
abbrev pub plus_outer : List Bool → List ℚ → ℚ → ℕ → ℚ → Option ℚ
plus_outer active z acc target prob =
    if is_active active target then Some acc else (written_mul prob (value_at z target) >>= (λ term. written_add acc term))

-- the best value so far, as the code holds it
abbrev pub shown : Leader → Best
shown leader = record { value = leader.value; choice = leader.choice }

-- a policy is one in one way
pub IsCandidate-prop : (node : Node) (c : ℕ) → IsProp (IsCandidate node c)
IsCandidate-prop (given v) c = Unit-prop
IsCandidate-prop (decision choices) c = hlevel props

pub IsPolicy-prop : (p : Problem) (policy : List ℕ) → IsProp (IsPolicy p policy)
IsPolicy-prop p policy = hlevel (props, IsCandidate-prop)
