use Rattle.std.proofs.Common.{Some, arith}
use Rattle.mdp_math.proofs.Order.{0ℚ}
use Rattle.mdp_search_bounds.specs.Near.{IsRewardNear}
use Rattle.mdp_search_bounds.proofs.Nearness.{one_more}
use Rattle.mdp_search_bounds.proofs.gap.Gap.between_rewards.Goals as goal

pub loop-place-preserved : goal.loop-place-preserved
loop-place-preserved c digits shows =
    one_more (IsRewardNear digits) c.args.lower.now c.args.upper.now (Some 0ℚ) c.loop-place.place c.index-lower-place.result c.index-upper-place.result (omega arith) (omega arith)
    c.index-lower-place.is c.index-upper-place.is (c.with-gap.ensures.near digits shows) (c.loop-place.invariant digits (c.with-gap.ensures.before digits shows))
