use Rattle.std.proofs.{Common.{◌≡◌, pos, arith}, lemmas.List.FromFn.{fill_by_all}}
use Rattle.mdp_math.specs.Rational.{of_int}
use Rattle.mdp_policy_iteration.specs.{Problem.{count, taken}, Path.{filled_by}}
use Rattle.mdp_policy_iteration.proofs.NodesAmong.{made-start, made-next, made-all}
use Rattle.mdp_policy_iteration.proofs.evaluation.put_values.Goals as goal

pub loop-s-init : goal.loop-s-init
loop-s-init g c =
    let p = g.P.ShortestPath.problem c.args.problem.now in
    made-start c.args.nodes.now (of_int (pos 0)) (count p) (λ s v. v ≡ filled_by c.args.solution.now s (taken p c.args.policy.now s)) c.args.values.now c.requires.room c.requires.others

pub loop-s-preserved : goal.loop-s-preserved
loop-s-preserved g c =
    let p = g.P.ShortestPath.problem c.args.problem.now in
    made-next c.args.nodes.now (of_int (pos 0)) (count p) (λ s v. v ≡ filled_by c.args.solution.now s (taken p c.args.policy.now s)) c.loop-s.s-index c.loop-s.values c.filled_value.result
    c.loop-s-test.true (c.requires.in_range c.loop-s.s-index 0 c.loop-s-test.true) c.loop-s.invariant c.filled_value.ensures

pub returns : goal.returns
returns g c =
    let p = g.P.ShortestPath.problem c.args.problem.now in
    fill_by_all (λ s. filled_by c.args.solution.now s (taken p c.args.policy.now s)) c.loop-s.values (count p) (of_int (pos 0)) c.loop-s.invariant.len
    (made-all c.args.nodes.now (of_int (pos 0)) (count p) (λ s v. v ≡ filled_by c.args.solution.now s (taken p c.args.policy.now s)) c.loop-s.s-index c.loop-s.values
    (omega (arith, c.loop-s.auto.s-index-end, c.loop-s-test.false)) c.loop-s.invariant)

pub bounds-values-s : goal.bounds-values-s
bounds-values-s g c = omega (arith, c.requires.in_range c.loop-s.s-index 0 c.loop-s-test.true, c.loop-s.invariant.len)

pub filled_value-requires-clause-node : goal.filled_value-requires-clause-node
filled_value-requires-clause-node g c = c.requires.in_range c.loop-s.s-index 0 c.loop-s-test.true

pub filled_value-requires-clause-policy : goal.filled_value-requires-clause-policy
filled_value-requires-clause-policy g c = c.requires.policy

pub filled_value-requires-clause-solution : goal.filled_value-requires-clause-solution
filled_value-requires-clause-solution g c = c.requires.solution
