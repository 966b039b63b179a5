use Rattle.std.proofs.Common.{◌-◌, ◌<◌, true, [], sym, subst, refl, arith, pos}
use Rattle.std.specs.{List.{All}, Option.{is_some}}
use Rattle.mdp_math.specs.Rational.{of_int}
use Rattle.mdp_policy_iteration.{specs.Problem.{plain, stop}, proofs.Reading.{reads-by, reads-lent}}
use Rattle.mdp_quot.specs.{Quotient.{row_of}, Problem.{component_of, gain_of, outer_problem}}
use Rattle.mdp_quot.proofs.OuterNodes.{outer-count, outer-stop, outer-exit, positive}
use Rattle.mdp_quot.proofs.outer_problem.OuterProblemShortestPath.reads.Goals as goal

pub row-requires-clause-node : goal.row-requires-clause-node
row-requires-clause-node c = omega (arith, c.requires.node, outer-count c.args.self.now.dir c.args.self.now.quotient.now c.args.self.now.gains.now)

pub row-requires-clause-exit : goal.row-requires-clause-exit
row-requires-clause-exit c =
    let p = c.args.self.now in
    (outer-exit p.dir p.quotient.now p.gains.now c.args.s c.requires.node c.args.c c.requires.choice (positive c.args.c c.if-c-eq0.false)).0

pub returns-then-c-eq0 : goal.returns-then-c-eq0
returns-then-c-eq0 c =
    let p = c.args.self.now in
    let part = component_of p.quotient.now c.args.s in
    reads-by (outer_problem p.dir p.quotient.now p.gains.now) c.args.s c.args.c [] (λ k d l. absurd (omega (arith, l))) (plain (is_some part) (stop (gain_of p.gains.now part)))
    (outer-stop p.dir p.quotient.now p.gains.now c.args.s c.requires.node c.args.c c.requires.choice c.if-c-eq0.true)
    tt (λ x y agree. refl)

pub returns-else-c-eq0 : goal.returns-else-c-eq0
returns-else-c-eq0 c =
    let p = c.args.self.now in
    let q = p.quotient.now in
    let ts = c.row.result.targets.now in
    reads-lent (outer_problem p.dir q p.gains.now) c.args.s c.args.c ts
    (subst (λ n. All (λ t. t < n) ts) (sym (outer-count p.dir q p.gains.now)) c.row.ensures.in_range)
    true (of_int (pos 0)) (row_of q c.args.s (c.args.c - 1)) c.row.result.probs.now
    (outer-exit p.dir q p.gains.now c.args.s c.requires.node c.args.c c.requires.choice (positive c.args.c c.if-c-eq0.false)).1 c.row.ensures.row
