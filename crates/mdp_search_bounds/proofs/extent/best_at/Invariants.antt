use Rattle.std.specs.Prelude.{◌≡◌, ◌⊎◌}
use Rattle.mdp_rows.specs.Better.{IsAsGood}
use Rattle.mdp_search_bounds.specs.Extent.{IsAsGoodAt, IsEarned}
use Rattle.mdp_search_bounds.proofs.extent.best_at.Given as goal

abbrev pub invariant-loop-c : goal.invariant-loop-c
invariant-loop-c l = record {
  as_first : IsAsGood l.dir l.best l.fn.first;
  as_each : IsAsGoodAt l.dir l.model l.name l.best l.s l.c;
  one : (l.best ≡ l.fn.first) ⊎ IsEarned l.model l.name l.best;
}
