-- Which choices depend on the value of which node, and which nodes come to others by a policy.
use Rattle.std.specs.{Prelude.{◌≡◌, ℕ, zero, suc, Bool, true, ◌&&◌, ◌==◌, ◌⊎◌, List, [], slice_index, slice_index_or}, List.{All, list_any}}
use Rattle.mdp_rows.specs.{Preds.{is_among}, declared.preds.Pred.{Pred}}

abbrev pub is_choice : ℕ → ℕ → Pred → Bool
is_choice s c p = (p.state == s) && (p.choice == c)

-- whether choice c of node s depends on the value of node t: it is in the list of t
abbrev pub depends : List (List Pred) → ℕ → ℕ → ℕ → Bool
depends dependents s c t = list_any (is_choice s c) (slice_index_or dependents t [])

-- node s comes to a changed one in n steps of a policy: it is one of them, or its choice depends on the value of a node that comes to one in a step less
abbrev pub Comes : List (List Pred) → List ℕ → List ℕ → ℕ → ℕ → Type 0
Comes dependents policy changed zero s = is_among s changed ≡ true
Comes dependents policy changed (suc n) s = (t : ℕ) × (depends dependents s (slice_index policy s) t ≡ true) × Comes dependents policy changed n t

-- these nodes are those that come to a changed one
pub record AreComingTo (dependents : List (List Pred)) (policy changed found : List ℕ) : Type 0 where
  pub each : (n s : ℕ) → Comes dependents policy changed n s → is_among s found ≡ true
  pub only : (s : ℕ) → is_among s found ≡ true → (n : ℕ) × Comes dependents policy changed n s

-- these nodes are the given ones, and those with a choice that depends on the value of one of them
pub record AreWithDependents (dependents : List (List Pred)) (nodes found : List ℕ) : Type 0 where
  pub holds_nodes : All (λ s. is_among s found ≡ true) nodes
  pub holds_dependents : (s c t : ℕ) → is_among t nodes ≡ true → depends dependents s c t ≡ true → is_among s found ≡ true
  pub only : (s : ℕ) → is_among s found ≡ true → (is_among s nodes ≡ true) ⊎ ((c : ℕ) × (t : ℕ) × (is_among t nodes ≡ true) × (depends dependents s c t ≡ true))
