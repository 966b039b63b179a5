-- The choices of a problem by the nodes on whose values they depend.
use Rattle.std.specs.Prelude.{◌≡◌, ℕ, ◌<◌, true, List, length, ◌⊎◌}
use Rattle.mdp_rows.specs.{Preds.{is_among}, declared.preds.Pred.{Pred}}
use Rattle.mdp_policy_iteration.specs.{Problem.{Problem, count, choices_at}, Reads.{Reads}, Dependents.{depends}}

-- for each node the choices whose worth depends on its value
pub record AreDependents (p : Problem) (dependents : List (List Pred)) : Type 0 where
  pub each_node : length dependents ≡ count p
  pub choices : (s c t : ℕ) → depends dependents s c t ≡ true → (s < count p) × (c < length (choices_at p s))
  pub complete :
      (s c : ℕ) → s < count p → c < length (choices_at p s) → (nodes : List ℕ) × Reads p s c nodes × ((t : ℕ) → is_among t nodes ≡ true → depends dependents s c t ≡ true)

-- choice d of node t comes before choice c of node s
abbrev pub IsBefore : ℕ → ℕ → ℕ → ℕ → Type 0
IsBefore s c t d = (t < s) ⊎ ((t ≡ s) × (d < c))

-- the same of those choices alone that come before choice c of node s
pub record AreDependentsTo (p : Problem) (s c : ℕ) (dependents : List (List Pred)) : Type 0 where
  pub each_node : length dependents ≡ count p
  pub choices : (t d v : ℕ) → depends dependents t d v ≡ true → (t < count p) × (d < length (choices_at p t))
  pub complete :
      (t d : ℕ) → IsBefore s c t d → d < length (choices_at p t) → (nodes : List ℕ) × Reads p t d nodes × ((v : ℕ) → is_among v nodes ≡ true → depends dependents t d v ≡ true)
