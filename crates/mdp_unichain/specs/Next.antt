-- The next policy, to the last choice: which class is picked, and how the other states go toward it. Exactly one policy is it.
use Rattle.std.specs.{Prelude.{◌≡◌, ◌≢◌, ◌⊎◌, ℕ, suc, ◌<◌, ◌≤◌, Bool, true, false, List, slice_index}, List.{All, Any}}
use Rattle.mdp_unichain.specs.{Chain.{IsClosedClass}, Component.{Component, choice_at, IsInner, is_state, row_by, IsPolicy, IsComponent}}
use Rattle.mdp_unichain.specs.Improvement.{KeepsClasses, IsNext}

-- a class holds a state where the two policies differ
abbrev pub HoldsChanged : List ℕ → List ℕ → (ℕ → Bool) → Type 0
HoldsChanged policy improved class = (s : ℕ) × (class s ≡ true) × (slice_index improved s ≢ slice_index policy s)

-- the closed class with the least state among those that hold a changed state
pub record IsPicked (p : Component) (policy improved : List ℕ) (class : ℕ → Bool) : Type 0 where
  pub class_is : IsClosedClass (is_state p) (row_by p improved) class
  pub changed : HoldsChanged policy improved class
  pub least : (t : ℕ) × (class t ≡ true) × ((other : ℕ → Bool) → IsClosedClass (is_state p) (row_by p improved) other → HoldsChanged policy improved other → (u : ℕ) → other u ≡ true → t ≤ u)

-- choice c of state s is the component's, and has an entry to a smaller rank
abbrev pub LeadsNearer : Component → (ℕ → ℕ) → ℕ → ℕ → Type 0
LeadsNearer p rank s c = IsInner p s c × Any (λ y. rank y.target < rank s) (choice_at p s c).row

-- how many steps a state is away from the class, by choices of the component
pub record AreRanksToward (p : Component) (class : ℕ → Bool) (rank : ℕ → ℕ) : Type 0 where
  pub zero : (s : ℕ) → class s ≡ true → rank s ≡ 0
  pub falls : (s : ℕ) → is_state p s ≡ true → class s ≡ false → (c : ℕ) × LeadsNearer p rank s c
  pub least : (s c : ℕ) → IsInner p s c → All (λ y. rank s ≤ suc (rank y.target)) (choice_at p s c).row

-- the least choice that leads nearer
pub record IsNearest (p : Component) (rank : ℕ → ℕ) (s c : ℕ) : Type 0 where
  pub nearer : LeadsNearer p rank s c
  pub least : (d : ℕ) → LeadsNearer p rank s d → c ≤ d

pub record GoesExactly (p : Component) (policy improved after : List ℕ) (class : ℕ → Bool) (rank : ℕ → ℕ) : Type 0 where
  pub picked : IsPicked p policy improved class
  pub ranks : AreRanksToward p class rank
  pub kept : (s : ℕ) → class s ≡ true → slice_index after s ≡ slice_index improved s
  pub toward : (s : ℕ) → is_state p s ≡ true → class s ≡ false → IsNearest p rank s (slice_index after s)
  pub is : IsPolicy p after

abbrev pub IsExactNext : Component → List ℕ → List ℕ → List ℕ → Type 0
IsExactNext p policy improved after = ((after ≡ improved) × KeepsClasses p policy improved) ⊎ ((class : ℕ → Bool) × (rank : ℕ → ℕ) × GoesExactly p policy improved after class rank)

-- ---- laws

abbrev pub ExactIsNext : Type 0
ExactIsNext = (p : Component) (policy improved after : List ℕ) → IsExactNext p policy improved after → IsNext p policy improved after

abbrev pub HasOneExactNext : Type 0
HasOneExactNext =
    (p : Component) (policy improved : List ℕ) → IsComponent p → IsPolicy p improved
    → (after : List ℕ) × IsExactNext p policy improved after × ((other : List ℕ) → IsExactNext p policy improved other → other ≡ after)
