use Rattle.std.proofs.Common.{◌∙◌, ◌<◌, List, Option, Some, sym, ap, ap₂, subst, arith}
use Rattle.std.specs.List.{All}
use Rattle.mdp_math.specs.Rational.{ℚ}
use Rattle.mdp_spec.specs.{Mdp.{Entry}, Written.{written_sum}}
use Rattle.mdp_policy_iteration.specs.Problem.{Choice}
use Rattle.mdp_quot.proofs.OuterNodes.{outer-count, outer-stop, outer-exit, positive}
use Rattle.mdp_quot.proofs.outer_problem.OuterProblemShortestPath.worth.Goals as goal

pub gain-requires : goal.gain-requires
gain-requires c = omega (arith, c.requires.node, outer-count c.args.self.now.dir c.args.self.now.quotient.now c.args.self.now.gains.now)

pub row-row-requires-clause-node : goal.row-row-requires-clause-node
row-row-requires-clause-node c = omega (arith, c.requires.node, outer-count c.args.self.now.dir c.args.self.now.quotient.now c.args.self.now.gains.now)

pub row-row-requires-clause-exit : goal.row-row-requires-clause-exit
row-row-requires-clause-exit c =
    let p = c.args.self.now in
    (outer-exit p.dir p.quotient.now p.gains.now c.args.s c.requires.node c.args.c c.requires.choice (positive c.args.c c.if-c-eq0.false)).0

pub sum-requires : goal.sum-requires
sum-requires c =
    let p = c.args.self.now in
    subst (λ n. All (λ t. t < n) c.row-row.result.targets.now) (sym (c.requires.values ∙ outer-count p.dir p.quotient.now p.gains.now)) c.row-row.ensures.in_range

pub returns-then-c-eq0 : goal.returns-then-c-eq0
returns-then-c-eq0 c =
    let p = c.args.self.now in
    ap (λ (v : ℚ). let o : Option ℚ = Some v in o) c.gain.ensures
    ∙ sym (ap (λ (x : Choice). x.written c.args.values.now) (outer-stop p.dir p.quotient.now p.gains.now c.args.s c.requires.node c.args.c c.requires.choice c.if-c-eq0.true))

pub returns-else-c-eq0 : goal.returns-else-c-eq0
returns-else-c-eq0 c =
    let p = c.args.self.now in
    c.sum.ensures
    ∙ ap₂ (λ (v : ℚ) (r : List Entry). written_sum c.args.values.now v r) c.whole.ensures c.row-row.ensures.row
    ∙ sym (ap (λ (x : Choice). x.written c.args.values.now) (outer-exit p.dir p.quotient.now p.gains.now c.args.s c.requires.node c.args.c c.requires.choice (positive c.args.c c.if-c-eq0.false)).1)
