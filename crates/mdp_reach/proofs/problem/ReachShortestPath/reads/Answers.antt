use Rattle.std.proofs.Common.{◌<◌, true, sym, subst, arith, pos}
use Rattle.std.specs.List.{All}
use Rattle.mdp_math.specs.Rational.{of_int}
use Rattle.mdp_spec.specs.Mdp.{row_at}
use Rattle.mdp_policy_iteration.proofs.Reading.{reads-lent}
use Rattle.mdp_reach.specs.Problem.{reach_problem}
use Rattle.mdp_reach.proofs.Nodes.{reach-count, reach-choice}
use Rattle.mdp_reach.proofs.problem.ReachShortestPath.reads.Goals as goal

pub row-requires-clause-state : goal.row-requires-clause-state
row-requires-clause-state c = let n = reach-count c.args.self.now.dir c.args.self.now.model.now c.args.self.now.goals.now c.args.self.now.marks.now in omega (arith, c.requires.node)

pub row-requires-clause-choice : goal.row-requires-clause-choice
row-requires-clause-choice c = (reach-choice c.args.self.now.dir c.args.self.now.model.now c.args.self.now.goals.now c.args.self.now.marks.now c.args.s c.args.c c.requires.node c.requires.choice).0

pub returns : goal.returns
returns c =
    let x = c.args.self.now in
    let ts = c.row.result.targets.now in
    reads-lent (reach_problem x.dir x.model.now x.goals.now x.marks.now) c.args.s c.args.c ts
    (subst (λ n. All (λ t. t < n) ts) (sym (reach-count x.dir x.model.now x.goals.now x.marks.now)) c.row.ensures.in_range)
    true (of_int (pos 0)) (row_at x.model.now c.args.s c.args.c) c.row.result.probs.now
    (reach-choice x.dir x.model.now x.goals.now x.marks.now c.args.s c.args.c c.requires.node c.requires.choice).1 c.row.ensures.row
