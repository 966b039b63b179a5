use Rattle.std.proofs.{Common.{◌≡◌, ◌∙◌, sym, ap, arith}, lemmas.Bool.{lt-ltb}}
use Rattle.std.specs.Option.{is_some}
use Rattle.mdp_policy_iteration.specs.Problem.{Choice}
use Rattle.mdp_quot.proofs.OuterNodes.{outer-count, outer-stop, outer-exit}
use Rattle.mdp_quot.proofs.outer_problem.OuterProblemShortestPath.is_candidate.Goals as goal

pub component-requires : goal.component-requires
component-requires c = omega (arith, c.requires.node, outer-count c.args.self.now.dir c.args.self.now.quotient.now c.args.self.now.gains.now)

pub returns-then-c-gt0 : goal.returns-then-c-gt0
returns-then-c-gt0 c =
    let p = c.args.self.now in
    lt-ltb 0 c.args.c c.if-c-gt0.true
    ∙ sym (ap Choice.candidate (outer-exit p.dir p.quotient.now p.gains.now c.args.s c.requires.node c.args.c c.requires.choice c.if-c-gt0.true).1)

pub returns-else-c-gt0 : goal.returns-else-c-gt0
returns-else-c-gt0 c =
    let p = c.args.self.now in
    let zero : c.args.c ≡ 0 = omega (arith, c.if-c-gt0.false) in
    c.is_some.ensures
    ∙ ap is_some c.component.ensures
    ∙ sym (ap Choice.candidate (outer-stop p.dir p.quotient.now p.gains.now c.args.s c.requires.node c.args.c c.requires.choice zero))
