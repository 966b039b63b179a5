use Rattle.std.proofs.Common.{arith}
use Rattle.mdp_math.proofs.Order.{0ℚ}
use Rattle.mdp_search_bounds.specs.Near.{IsNear}
use Rattle.mdp_search_bounds.proofs.Nearness.{one_more}
use Rattle.mdp_search_bounds.proofs.gap.Gap.between.Goals as goal

pub loop-place-preserved : goal.loop-place-preserved
loop-place-preserved c digits shows =
    one_more (IsNear digits) c.args.lower.now c.args.upper.now 0ℚ c.loop-place.place c.index-lower-place.result c.index-upper-place.result (omega arith) (omega arith) c.index-lower-place.is
    c.index-upper-place.is (c.with-gap.ensures.near digits shows) (c.loop-place.invariant digits (c.with-gap.ensures.before digits shows))
