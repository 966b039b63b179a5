use Rattle.std.proofs.{Common.{◌∙◌, refl, sym, pos, arith}, lemmas.Bool.{true≢false}}
use Rattle.mdp_math.specs.Rational.{of_int}
use Rattle.mdp_policy_iteration.specs.Problem.{count}
use Rattle.mdp_elim.proofs.Others.{among-at}
use Rattle.mdp_policy_iteration.proofs.{NodesAmong.{made-start, made-next, made-all}, Elsewhere.{IsStopValue}}
use Rattle.mdp_policy_iteration.proofs.evaluation.put_stop_values.Goals as goal

pub loop-s-init : goal.loop-s-init
loop-s-init g c =
    let p = g.P.ShortestPath.problem c.args.problem.now in
    made-start c.args.nodes.now (of_int (pos 0)) (count p) (IsStopValue p c.args.policy.now c.args.nodes.now c.args.values.now) c.args.values.now c.requires.room
    (λ s l out. record { stops = c.requires.others s l out; other = λ _. refl })

pub loop-s-preserved : goal.loop-s-preserved
loop-s-preserved g c =
    let p = g.P.ShortestPath.problem c.args.problem.now in
    made-next c.args.nodes.now (of_int (pos 0)) (count p) (IsStopValue p c.args.policy.now c.args.nodes.now c.args.values.now) c.loop-s.s-index c.loop-s.values c.stop_value.result
    c.loop-s-test.true (c.requires.in_range c.loop-s.s-index 0 c.loop-s-test.true) c.loop-s.invariant
    (record { stops = λ _. c.stop_value.ensures; other = λ out. absurd (true≢false (sym (among-at c.args.nodes.now c.loop-s.s-index c.loop-s-test.true) ∙ out)) })

pub returns-clause-stops : goal.returns-clause-stops
returns-clause-stops g c = λ s l e.
    let p = g.P.ShortestPath.problem c.args.problem.now in
    IsStopValue.stops
    (made-all c.args.nodes.now (of_int (pos 0)) (count p) (IsStopValue p c.args.policy.now c.args.nodes.now c.args.values.now) c.loop-s.s-index c.loop-s.values
    (omega (arith, c.loop-s.auto.s-index-end, c.loop-s-test.false)) c.loop-s.invariant s l)
    e

pub returns-clause-others : goal.returns-clause-others
returns-clause-others g c = λ s l out.
    let p = g.P.ShortestPath.problem c.args.problem.now in
    IsStopValue.other
    (made-all c.args.nodes.now (of_int (pos 0)) (count p) (IsStopValue p c.args.policy.now c.args.nodes.now c.args.values.now) c.loop-s.s-index c.loop-s.values
    (omega (arith, c.loop-s.auto.s-index-end, c.loop-s-test.false)) c.loop-s.invariant s l)
    out

pub bounds-values-s : goal.bounds-values-s
bounds-values-s g c = omega (arith, c.requires.in_range c.loop-s.s-index 0 c.loop-s-test.true, c.loop-s.invariant.len)

pub stop_value-requires-clause-node : goal.stop_value-requires-clause-node
stop_value-requires-clause-node g c = c.requires.in_range c.loop-s.s-index 0 c.loop-s-test.true

pub stop_value-requires-clause-policy : goal.stop_value-requires-clause-policy
stop_value-requires-clause-policy g c = c.requires.policy
