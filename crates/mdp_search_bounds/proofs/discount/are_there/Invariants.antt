use Rattle.std.specs.Prelude.{ℕ, ◌<◌, IsSome}
use Rattle.mdp_spec.specs.Bounds.{reward_at}
use Rattle.mdp_search_bounds.proofs.discount.are_there.Given as goal

abbrev pub invariant-loop-place : goal.invariant-loop-place
invariant-loop-place l = (s : ℕ) → s < l.place → IsSome (reward_at l.values s)
