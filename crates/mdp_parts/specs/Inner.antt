-- Inner choices that lead to smaller ranks, as the code tests them.
use Rattle.std.specs.Prelude.{ℕ, Bool, ◌&&◌, List, Option}
use Rattle.mdp_spec.specs.Mdp.{Mdp, row_at}
use Rattle.mdp_graph.specs.{Sets.{can_enter}, Layers.{rank_at}, Choices.{plain_rank, is_before}}
use Rattle.mdp_ends.specs.Ends.{is_inside}

-- choice c of state s is inside and has a successor of a rank below that of s
abbrev pub may_fall_inside : Mdp → List (Option ℕ) → List (Option ℕ) → ℕ → ℕ → Bool
may_fall_inside m ends ranks s c = is_inside m ends s c && can_enter (λ t. is_before (plain_rank (rank_at ranks s)) (rank_at ranks t)) (row_at m s c)
