-- Tables: a choice of each state for each step.
use Rattle.std.specs.{Prelude.{◌≡◌, ℕ, List, [], ◌∷◌, length, ◌==◌, slice_index, if◌then◌else◌}, List.{All}}
use Rattle.mdp_spec.specs.{Mdp.{Mdp}, Tree.{Tree, IsPolicy, target_at}, Tree.Tree.{leaf, node}}

-- a table of n steps: those of the first step first
pub record IsTable (m : Mdp) (n : ℕ) (table : List (List ℕ)) : Type 0 where
  pub one_each : length table ≡ n
  pub policies : All (IsPolicy m) table

-- the tree that follows a table, of mixing total 1: as deep as the table is long
abbrev pub unfolded_steps : Mdp → List (List ℕ) → ℕ → Tree
unfolded_steps m [] s = leaf
unfolded_steps m (choices ∷ table) s = node (λ c. if slice_index choices s == c then 1 else 0) (λ c e. unfolded_steps m table (target_at m s c e))
