use Rattle.std.proofs.Common.{◌+◌}
use Rattle.mdp_num.proofs.Orders.{IsOrderOf}
use Rattle.mdp_num.proofs.order.fraction_order.Given as goal

abbrev pub invariant-loop-num : goal.invariant-loop-num
invariant-loop-num l = IsOrderOf l.fn.a l.fn.b l.fn.c l.fn.d l.num l.den l.other_num l.other_den

abbrev pub decreases-loop-num : goal.decreases-loop-num
decreases-loop-num l = l.den + l.other_den
