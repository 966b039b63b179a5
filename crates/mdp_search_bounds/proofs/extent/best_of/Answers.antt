use Rattle.mdp_search_bounds.proofs.Best.{below_next, one-after}
use Rattle.mdp_search_bounds.proofs.extent.best_of.Goals as goal

pub loop-s-preserved : goal.loop-s-preserved
loop-s-preserved c =
    let m = c.args.model.now in
    let x = c.best_at-best.result in
    let old = c.loop-s.best in
    record {
      as_each = below_next c.args.dir m c.args.name old x c.best_at-best.ensures.as_first c.loop-s.s c.loop-s.invariant.as_each c.best_at-best.ensures.as_each;
      one = one-after m c.args.name c.args.first.now old x c.loop-s.invariant.one c.best_at-best.ensures.one;
    }
