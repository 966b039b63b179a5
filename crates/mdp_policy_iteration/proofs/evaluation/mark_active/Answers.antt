use Rattle.std.proofs.{Common.{◌≡◌, ◌+◌, List, Bool, false, get_or, sym, subst, arith}, lemmas.List.FromFn.{fill_by_all}}
use Rattle.mdp_policy_iteration.specs.Problem.{count, goes_on, taken}
use Rattle.mdp_policy_iteration.proofs.{NodesAmong.{AreMade, made-start, made-next, made-all}, Chain.{can_take}}
use Rattle.mdp_policy_iteration.proofs.evaluation.mark_active.Goals as goal

pub loop-s-init : goal.loop-s-init
loop-s-init g c =
    let p = g.P.ShortestPath.problem c.args.problem.now in
    made-start c.args.nodes.now false (count p) (λ s b. b ≡ goes_on (taken p c.args.policy.now s)) c.args.active.now c.requires.room c.requires.others

pub set-requires : goal.set-requires
set-requires g c = let h = c.requires.in_range c.loop-s.s-index 0 c.loop-s-test.true in let n = c.loop-s.invariant.len in omega arith

pub loop-s-preserved : goal.loop-s-preserved
loop-s-preserved g c =
    let p = g.P.ShortestPath.problem c.args.problem.now in
    subst (λ (xs : List Bool). AreMade c.args.nodes.now false (count p) (λ s b. b ≡ goes_on (taken p c.args.policy.now s)) (c.loop-s.s-index + 1) xs) (sym c.set.ensures)
    (made-next c.args.nodes.now false (count p) (λ s b. b ≡ goes_on (taken p c.args.policy.now s)) c.loop-s.s-index c.loop-s.active c.goes_on.result c.loop-s-test.true
    (c.requires.in_range c.loop-s.s-index 0 c.loop-s-test.true) c.loop-s.invariant c.goes_on.ensures)

pub returns : goal.returns
returns g c =
    let p = g.P.ShortestPath.problem c.args.problem.now in
    fill_by_all (λ s. goes_on (taken p c.args.policy.now s)) c.loop-s.active (count p) false c.loop-s.invariant.len
    (made-all c.args.nodes.now false (count p) (λ s b. b ≡ goes_on (taken p c.args.policy.now s)) c.loop-s.s-index c.loop-s.active
    (omega (arith, c.loop-s.auto.s-index-end, c.loop-s-test.false)) c.loop-s.invariant)

pub bounds-policy-s : goal.bounds-policy-s
bounds-policy-s g c = omega (arith, c.requires.in_range c.loop-s.s-index 0 c.loop-s-test.true, c.requires.policy.one_each)

pub goes_on-requires-clause-node : goal.goes_on-requires-clause-node
goes_on-requires-clause-node g c = c.requires.in_range c.loop-s.s-index 0 c.loop-s-test.true

pub goes_on-requires-clause-choice : goal.goes_on-requires-clause-choice
goes_on-requires-clause-choice g c =
    can_take (g.P.ShortestPath.problem c.args.problem.now) c.args.policy.now c.requires.policy (get_or c.args.nodes.now c.loop-s.s-index 0)
    (c.requires.in_range c.loop-s.s-index 0 c.loop-s-test.true)
