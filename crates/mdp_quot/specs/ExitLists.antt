-- The exits of all nodes, choice by choice.
use Rattle.std.specs.{Prelude.{◌≡◌, ℕ, ◌<◌, Bool, ◌&&◌, ◌==◌, not, List, [], length, Option, slice_index, slice_index_or}, List.{filter}}
use Rattle.mdp_rows.specs.declared.preds.Pred.{Pred}
use Rattle.mdp_spec.specs.Mdp.{Mdp}
use Rattle.mdp_ends.specs.Ends.{is_inside}

-- whether a choice is an exit of node k
abbrev pub is_exit : Mdp → List (Option ℕ) → List ℕ → ℕ → Pred → Bool
is_exit m parts nodes k x = (slice_index nodes x.state == k) && not (is_inside m parts x.state x.choice)

-- for each of n nodes those of these choices that are its exits
pub record AreExits (m : Mdp) (parts : List (Option ℕ)) (nodes : List ℕ) (n : ℕ) (choices : List Pred) (lists : List (List Pred)) : Type 0 where
  pub count : length lists ≡ n
  pub each : (k : ℕ) → k < n → slice_index_or lists k [] ≡ filter (is_exit m parts nodes k) choices
