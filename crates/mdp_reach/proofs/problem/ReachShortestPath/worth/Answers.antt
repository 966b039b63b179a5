use Rattle.std.proofs.Common.{◌∙◌, ◌<◌, List, sym, subst, ap₂, arith}
use Rattle.std.specs.List.{All}
use Rattle.mdp_math.specs.Rational.{ℚ}
use Rattle.mdp_spec.specs.{Mdp.{Entry}, Written.{written_sum}}
use Rattle.mdp_reach.proofs.Nodes.{reach-count, reach-choice, reach-written}
use Rattle.mdp_reach.proofs.problem.ReachShortestPath.worth.Goals as goal

pub row-requires-clause-state : goal.row-requires-clause-state
row-requires-clause-state c = let n = reach-count c.args.self.now.dir c.args.self.now.model.now c.args.self.now.goals.now c.args.self.now.marks.now in omega (arith, c.requires.node)

pub row-requires-clause-choice : goal.row-requires-clause-choice
row-requires-clause-choice c = (reach-choice c.args.self.now.dir c.args.self.now.model.now c.args.self.now.goals.now c.args.self.now.marks.now c.args.s c.args.c c.requires.node c.requires.choice).0

pub sum-requires : goal.sum-requires
sum-requires c =
    subst (λ n. All (λ t. t < n) c.row.result.targets.now)
    (sym (c.requires.values ∙ reach-count c.args.self.now.dir c.args.self.now.model.now c.args.self.now.goals.now c.args.self.now.marks.now)) c.row.ensures.in_range

pub returns : goal.returns
returns c =
    c.sum.ensures
    ∙ ap₂ (λ (v : ℚ) (r : List Entry). written_sum c.args.values.now v r) c.whole.ensures c.row.ensures.row
    ∙ sym (reach-written c.args.self.now.dir c.args.self.now.model.now c.args.self.now.goals.now c.args.self.now.marks.now c.args.s c.requires.node c.args.c c.args.values.now c.requires.choice)
