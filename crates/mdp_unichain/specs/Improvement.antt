-- One round of policy iteration for the gain (Howard 1960): choices that are better under the present gain and bias, and the next policy.
use Rattle.std.specs.Prelude.{◌≡◌, ◌≢◌, ◌⊎◌, ℕ, Bool, true, List, slice_index}
use Rattle.mdp_math.specs.Rational.{ℚ, ◌+ℚ◌}
use Rattle.mdp_unichain.specs.Chain.{IsReference, IsClosedClass, AllLeadInto}
use Rattle.mdp_unichain.specs.{Component.{Component, Choice, choice_at, IsInner, is_state, row_by, reward_by, IsPolicy}, Evaluation.{mean, IsEvaluation}}
use Rattle.mdp_rows.specs.Better.{IsBetter, IsAsGood}

-- a policy of the path: it has one closed class, with the reference t, and this gain and bias
pub record IsEvaluated (p : Component) (policy : List ℕ) (t : ℕ) (gain : ℚ) (bias : ℕ → ℚ) : Type 0 where
  pub is : IsPolicy p policy
  pub reference : IsReference (is_state p) (row_by p policy) t
  pub values : IsEvaluation (is_state p) (row_by p policy) (reward_by p policy) t gain bias

-- what a choice is worth under a bias
abbrev pub worth : (ℕ → ℚ) → Choice → ℚ
worth bias choice = choice.reward +ℚ mean choice.row bias

-- choice c of state s is better than the present policy
abbrev pub IsBetterChoice : Component → ℚ → (ℕ → ℚ) → ℕ → ℕ → Type 0
IsBetterChoice p gain bias s c = IsInner p s c × IsBetter p.dir (worth bias (choice_at p s c)) (gain +ℚ bias s)

-- no choice of state s is better
abbrev pub NoneBetterAt : Component → ℚ → (ℕ → ℚ) → ℕ → Type 0
NoneBetterAt p gain bias s = (c : ℕ) → IsInner p s c → IsAsGood p.dir (gain +ℚ bias s) (worth bias (choice_at p s c))

-- at each state the improved policy takes a better choice, or keeps the one that it has, and this only where none is better
pub record IsImproved (p : Component) (policy : List ℕ) (gain : ℚ) (bias : ℕ → ℚ) (improved : List ℕ) : Type 0 where
  pub is : IsPolicy p improved
  pub better : (s : ℕ) → is_state p s ≡ true → ((slice_index improved s ≡ slice_index policy s) × NoneBetterAt p gain bias s) ⊎ IsBetterChoice p gain bias s (slice_index improved s)

-- a state where the two policies differ
abbrev pub IsChanged : Component → List ℕ → List ℕ → ℕ → Type 0
IsChanged p policy improved s = (is_state p s ≡ true) × (slice_index improved s ≢ slice_index policy s)

-- no closed class of the improved policy holds a changed state
abbrev pub KeepsClasses : Component → List ℕ → List ℕ → Type 0
KeepsClasses p policy improved =
    (class : ℕ → Bool) → IsClosedClass (is_state p) (row_by p improved) class → (s : ℕ) → class s ≡ true → slice_index improved s ≡ slice_index policy s

-- the improved choices are kept on a closed class that holds a changed state, and the other states go toward it
pub record GoesToward (p : Component) (policy improved after : List ℕ) (class : ℕ → Bool) : Type 0 where
  pub class_is : IsClosedClass (is_state p) (row_by p improved) class
  pub changed : (s : ℕ) × (class s ≡ true) × (slice_index improved s ≢ slice_index policy s)
  pub kept : (s : ℕ) → class s ≡ true → slice_index after s ≡ slice_index improved s
  pub toward : AllLeadInto (is_state p) (row_by p after) class
  pub is : IsPolicy p after

-- the next policy: the improved one where no closed class of it holds a changed state, else one that goes toward such a class
abbrev pub IsNext : Component → List ℕ → List ℕ → List ℕ → Type 0
IsNext p policy improved after = ((after ≡ improved) × KeepsClasses p policy improved) ⊎ ((class : ℕ → Bool) × GoesToward p policy improved after class)

-- no choice of the component is better
abbrev pub NoneBetter : Component → ℚ → (ℕ → ℚ) → Type 0
NoneBetter p gain bias = (s : ℕ) → NoneBetterAt p gain bias s
