-- What the values of a given policy mean, and what a better choice at a state means (policy evaluation and policy improvement: Puterman 1994,
-- section 7.2). `stay` marks the states on the way to a goal, where it is given; else any state may be on it. `k` and `q` stand for whole
-- numbers of at least 1.
use Rattle.std.specs.Prelude.{◌≡◌, ℕ, ◌<◌, ◌≤◌, Bool, List, Option, Some, None}
use Rattle.mdp_math.specs.Rational.{ℚ, ◌+ℚ◌, ◌≤ℚ◌, ◌<ℚ◌}
use Rattle.mdp_spec.specs.{Mdp.{Mdp, states_of, value_at}, Tree.{Tree, IsStrategy, IsPolicy, unfolded}, Hit.{hit}, Bounds.{ReachMax, part}, Until.{until, UntilMax}}
use Rattle.mdp_policy.specs.{Written.{Answer}, declared.value.Change.{Change}}

-- the probability with which a tree comes to a goal
abbrev pub comes : Mdp → Option (List Bool) → List Bool → ℕ → ℕ → Tree → ℕ → ℚ
comes m None goals u n t s = hit m goals u n t s
comes m (Some stay) goals u n t s = until m stay goals u n t s

-- the probabilities with which the policy, which is one, comes to a goal: it doesn't pass the values, and comes close to them
pub record PolicyBound (m : Mdp) (stay : Option (List Bool)) (goals : List Bool) (z : List ℚ) (policy : List ℕ) : Type 0 where
  pub takes : IsPolicy m policy
  pub below : (n s : ℕ) → s < states_of m → comes m stay goals 1 n (unfolded m policy n s) s ≤ℚ value_at z s
  pub close : (s k : ℕ) → s < states_of m → 1 ≤ k → (n : ℕ) × (value_at z s ≤ℚ comes m stay goals 1 n (unfolded m policy n s) s +ℚ part k)

-- they are the greatest of all policies, with history and mixing too
abbrev pub AreGreatest : Mdp → Option (List Bool) → List Bool → List ℚ → List ℕ → Type 0
AreGreatest m None goals z policy = ReachMax m goals z policy
AreGreatest m (Some stay) goals z policy = UntilMax m stay goals z policy

-- some tree from s comes to a goal with a greater probability than the value
abbrev pub SomeTreePasses : Mdp → Option (List Bool) → List Bool → List ℚ → ℕ → Type 0
SomeTreePasses m stay goals z s = (n u : ℕ) × (t : Tree) × IsStrategy m u n t s × (value_at z s <ℚ comes m stay goals u n t s)

-- for some 1/q there is at each depth a tree from s that stays below the value by 1/q
abbrev pub DeepTreesStayBelow : Mdp → Option (List Bool) → List Bool → List ℚ → ℕ → Type 0
DeepTreesStayBelow m stay goals z s = (q : ℕ) × (1 ≤ q) × ((n : ℕ) → (u : ℕ) × (t : Tree) × IsStrategy m u n t s × (comes m stay goals u n t s +ℚ part q ≤ℚ value_at z s))

-- at the change that raises a value some tree passes it, and at the one that lowers a value deep trees stay below it
abbrev pub Raises : Mdp → Option (List Bool) → List Bool → Answer → Type 0
Raises m stay goals v = (change : Change) → v.up ≡ Some change → SomeTreePasses m stay goals v.values change.state

abbrev pub Lowers : Mdp → Option (List Bool) → List Bool → Answer → Type 0
Lowers m stay goals v = (change : Change) → v.down ≡ Some change → DeepTreesStayBelow m stay goals v.values change.state
