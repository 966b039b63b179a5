use Rattle.std.proofs.Common.{◌∙◌, ◌<◌, ◌≡◌, true, sym, arith, get_or}
use Rattle.mdp_policy_iteration.specs.{Problem.{count}, Path.{evaluating, fits}}
use Rattle.mdp_policy_iteration.proofs.{NodesAmong.{so_far-start, so_far-next, so_far-all, visited-below}, Results.{all_pass-refused}, UpTo.{all_pass-from}}
use Rattle.mdp_policy_iteration.proofs.Chain.{can_take}
use Rattle.mdp_policy_iteration.proofs.evaluation.check_rows_at.Goals as goal

pub loop-s-init : goal.loop-s-init
loop-s-init g c = let p = g.P.ShortestPath.problem c.args.problem.now in so_far-start c.args.nodes.now (count p) (λ s. fits p c.args.policy.now s ≡ true) c.requires.others

pub loop-s-preserved : goal.loop-s-preserved
loop-s-preserved g c =
    let p = g.P.ShortestPath.problem c.args.problem.now in
    so_far-next c.args.nodes.now (count p) (λ s. fits p c.args.policy.now s ≡ true) c.loop-s.s-index c.loop-s-test.true c.loop-s.invariant (sym c.fits.ensures ∙ c.if-not-fits.false)

pub returns-then-not-fits : goal.returns-then-not-fits
returns-then-not-fits g c =
    let p = g.P.ShortestPath.problem c.args.problem.now in
    let s = get_or c.args.nodes.now c.loop-s.s-index 0 in
    let below : s < count p = c.requires.in_range c.loop-s.s-index 0 c.loop-s-test.true in
    all_pass-refused (fits p c.args.policy.now) (evaluating c.args.policy.now) s (count p)
    (all_pass-from (fits p c.args.policy.now) (evaluating c.args.policy.now) s
    (λ t l. c.loop-s.invariant t (omega arith) (visited-below c.args.nodes.now c.loop-s.s-index t c.requires.ascend c.loop-s-test.true l)))
    (sym c.fits.ensures ∙ c.if-not-fits.true) below

pub returns : goal.returns
returns g c =
    let p = g.P.ShortestPath.problem c.args.problem.now in
    all_pass-from (fits p c.args.policy.now) (evaluating c.args.policy.now) (count p)
    (so_far-all c.args.nodes.now (count p) (λ s. fits p c.args.policy.now s ≡ true) c.loop-s.s-index (omega (arith, c.loop-s.auto.s-index-end, c.loop-s-test.false)) c.loop-s.invariant)

pub bounds-policy-s : goal.bounds-policy-s
bounds-policy-s g c = omega (arith, c.requires.in_range c.loop-s.s-index 0 c.loop-s-test.true, c.requires.policy.one_each)

pub fits-requires-clause-node : goal.fits-requires-clause-node
fits-requires-clause-node g c = c.requires.in_range c.loop-s.s-index 0 c.loop-s-test.true

pub fits-requires-clause-choice : goal.fits-requires-clause-choice
fits-requires-clause-choice g c =
    can_take (g.P.ShortestPath.problem c.args.problem.now) c.args.policy.now c.requires.policy (get_or c.args.nodes.now c.loop-s.s-index 0)
    (c.requires.in_range c.loop-s.s-index 0 c.loop-s-test.true)
