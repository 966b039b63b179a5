use Rattle.std.proofs.Common.{◌≡◌, ◌%◌, ◌⊎◌, inl, inr, ◌∙◌, arith}
use Rattle.mdp_num.proofs.Orders.{order_whole, order_end, order_step}
use Rattle.mdp_num.proofs.order.fraction_order.Goals.{then-rest-eq0-via-then-rest-eq0, then-rest-eq0-via-else-rest-eq0+then-other_rest-eq0}
use Rattle.mdp_num.proofs.order.fraction_order.Goals as goal

pub returns-then-rest-eq0 : goal.returns-then-rest-eq0
returns-then-rest-eq0 c =
    let z : (c.loop-num.num % c.loop-num.den ≡ 0) ⊎ (c.loop-num.other_num % c.loop-num.other_den ≡ 0) = elim c.then-rest-eq0.branch [
      | then-rest-eq0-via-then-rest-eq0 w ↦ inl w.if-rest-eq0.true
      | then-rest-eq0-via-else-rest-eq0+then-other_rest-eq0 w ↦ inr w.if-other_rest-eq0.true
    ] in
    c.cmp.ensures ∙ order_end _ _ _ _ _ _ _ _ c.loop-num.invariant c.loop-num-test.true z

pub loop-num-preserved : goal.loop-num-preserved
loop-num-preserved c = order_step _ _ _ _ _ _ _ _ c.loop-num.invariant c.loop-num-test.true (omega (arith, c.if-rest-eq0.false)) (omega (arith, c.if-other_rest-eq0.false))

pub returns : goal.returns
returns c = c.cmp-2.ensures ∙ order_whole _ _ _ _ _ _ _ _ c.loop-num.invariant c.loop-num-test.false
