use Rattle.std.proofs.Common.{◌<◌, true, sym, subst, arith, pos}
use Rattle.std.specs.List.{All}
use Rattle.mdp_math.specs.Rational.{of_int}
use Rattle.mdp_policy_iteration.proofs.Reading.{reads-lent}
use Rattle.mdp_quot.specs.{Quotient.{row_of}, Problem.{steps_problem}}
use Rattle.mdp_quot.proofs.StepsNodes.{steps-count, steps-choice}
use Rattle.mdp_quot.proofs.steps_problem.StepsProblemShortestPath.reads.Goals as goal

pub row-requires-clause-node : goal.row-requires-clause-node
row-requires-clause-node c = omega (arith, c.requires.node, steps-count c.args.self.now.quotient.now)

pub row-requires-clause-exit : goal.row-requires-clause-exit
row-requires-clause-exit c = (steps-choice c.args.self.now.quotient.now c.args.s c.args.c c.requires.node c.requires.choice).0

pub returns : goal.returns
returns c =
    let q = c.args.self.now.quotient.now in
    let ts = c.row.result.targets.now in
    reads-lent (steps_problem q) c.args.s c.args.c ts (subst (λ n. All (λ t. t < n) ts) (sym (steps-count q)) c.row.ensures.in_range)
    true (of_int (pos 1)) (row_of q c.args.s c.args.c) c.row.result.probs.now (steps-choice q c.args.s c.args.c c.requires.node c.requires.choice).1 c.row.ensures.row
