-- The values of a policy in exact numbers, and how two values compare.
use Rattle.std.specs.Prelude.{◌≡◌, ℕ, ◌<◌, true, List, length, ◌⊎◌, pos}
use Rattle.mdp_math.specs.Rational.{ℚ, of_int}
use Rattle.mdp_spec.specs.Mdp.{value_at}
use Rattle.mdp_elim.specs.System.{Leaves}
use Rattle.mdp_policy_iteration.specs.Problem.{Problem, Move, stop, go, count, worth, taken, choices_at, choice_at, active_of, rows_of, IsPolicy}
use Rattle.mdp_rows.specs.{declared.dir.Dir.{Dir}, Better.{IsAsGood}}

-- each node is worth what the policy's move there is worth
pub record IsValue (p : Problem) (policy : List ℕ) (x : List ℚ) : Type 0 where
  pub len : length x ≡ count p
  pub at : (s : ℕ) → s < count p → value_at x s ≡ worth x (taken p policy s)

-- the policy leaves its active nodes: each has an entry to a node that stops, or to an active one of smaller rank
abbrev pub CanLeave : Problem → List ℕ → Type 0
CanLeave p policy = (ranks : List ℕ) × (length ranks ≡ count p) × Leaves (rows_of p policy) (active_of p policy) ranks

-- what a move earns on its way doesn't help: at most 0 for Max, at least 0 for Min
abbrev pub EarnsNoGood : Dir → Move → Type 0
EarnsNoGood dir (stop v) = Unit {0}
EarnsNoGood dir (go r row) = IsAsGood dir (of_int (pos 0)) r

-- ---- when each next policy leaves its active nodes: all policies do, or the start does and no candidate's earnings help

abbrev pub AllLeave : Problem → Type 0
AllLeave p = (policy : List ℕ) → IsPolicy p policy → CanLeave p policy

abbrev pub NoneHelps : Problem → Type 0
NoneHelps p = (s c : ℕ) → s < count p → c < length (choices_at p s) → (choice_at p s c).candidate ≡ true → EarnsNoGood p.dir (choice_at p s c).move

-- the problem keeps each next policy leaving
abbrev pub KeepsLeaving : Problem → Type 0
KeepsLeaving p = AllLeave p ⊎ NoneHelps p
