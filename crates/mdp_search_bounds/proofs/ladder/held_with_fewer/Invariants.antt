use Rattle.std.specs.Prelude.{ℕ, ◌<◌, ◌-◌, ◌*◌}
use Rattle.mdp_search_bounds.specs.Tried.{IsVain}
use Rattle.mdp_search_bounds.proofs.ladder.held_with_fewer.Given as goal

abbrev pub invariant-loop-k : goal.invariant-loop-k
invariant-loop-k g l = (j : ℕ) → j < l.k → IsVain (g.S.Search.is_proposed l.search) (g.S.Search.is_held l.search) (12 - 3 * j)
