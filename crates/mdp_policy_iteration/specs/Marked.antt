-- Nodes that a search has found so far, each with a mark.
use Rattle.std.specs.{Prelude.{◌≡◌, ℕ, ◌≤◌, Bool, false, ◌||◌, ◌==◌, ◌++◌, List, [], length, slice_index, slice_index_or, count_by}, List.{list_any}}
use Rattle.mdp_rows.specs.{Preds.{is_among}, declared.preds.Pred.{Pred}}
use Rattle.mdp_policy_iteration.specs.Dependents.{is_choice}

-- one of these choices is that of node s by the policy
abbrev pub is_taker : List ℕ → List Pred → ℕ → Bool
is_taker policy choices s = list_any (is_choice s (slice_index policy s)) choices

-- one of these choices is of node s
abbrev pub has_one : List Pred → ℕ → Bool
has_one choices s = list_any (λ p. p.state == s) choices

-- node s has a choice that depends on the value of one of these
abbrev pub depends_on_one : List (List Pred) → List ℕ → ℕ → Bool
depends_on_one dependents nodes s = list_any (λ t. has_one (slice_index_or dependents t []) s) nodes

-- the nodes found, each once, are those with a mark
pub record AreMarked (marks : List Bool) (found : List ℕ) : Type 0 where
  pub marked : (s : ℕ) → slice_index_or marks s false ≡ is_among s found
  pub once : (s : ℕ) → count_by (λ x. x == s) found ≤ 1
  pub many : length found ≡ count_by (λ m. m) marks

-- as many marks, and behind the nodes found those that pass the test
pub record AreAdded (test : ℕ → Bool) (old_marks marks : List Bool) (old found : List ℕ) : Type 0 where
  pub count : length marks ≡ length old_marks
  pub marked : AreMarked marks found
  pub front : (more : List ℕ) × (found ≡ old ++ more)
  pub at : (s : ℕ) → is_among s found ≡ (is_among s old || test s)
