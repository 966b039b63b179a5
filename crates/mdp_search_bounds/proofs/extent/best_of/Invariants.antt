use Rattle.std.specs.Prelude.{◌≡◌, ◌⊎◌}
use Rattle.mdp_search_bounds.specs.Extent.{IsAsGoodBelow, IsEarned}
use Rattle.mdp_search_bounds.proofs.extent.best_of.Given as goal

abbrev pub invariant-loop-s : goal.invariant-loop-s
invariant-loop-s l = record {
  as_each : IsAsGoodBelow l.dir l.model l.name l.best l.s;
  one : (l.best ≡ l.fn.first) ⊎ IsEarned l.model l.name l.best;
}
