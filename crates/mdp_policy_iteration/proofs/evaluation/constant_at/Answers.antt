use Rattle.std.proofs.Common.{◌<◌, sym, subst, arith}
use Rattle.std.specs.List.{All}
use Rattle.mdp_policy_iteration.proofs.Chain.{can_take}
use Rattle.mdp_policy_iteration.proofs.evaluation.constant_at.Goals as goal

pub bounds-policy-s : goal.bounds-policy-s
bounds-policy-s g c = omega (arith, c.requires.policy.one_each, c.requires.node)

pub goes_on-requires-clause-node : goal.goes_on-requires-clause-node
goes_on-requires-clause-node g c = c.requires.node

pub goes_on-requires-clause-choice : goal.goes_on-requires-clause-choice
goes_on-requires-clause-choice g c = can_take (g.P.ShortestPath.problem c.args.problem.now) c.args.policy.now c.requires.policy c.args.s c.requires.node

pub amount-amount-requires-clause-node : goal.amount-amount-requires-clause-node
amount-amount-requires-clause-node g c = c.requires.node

pub amount-amount-requires-clause-choice : goal.amount-amount-requires-clause-choice
amount-amount-requires-clause-choice g c = can_take (g.P.ShortestPath.problem c.args.problem.now) c.args.policy.now c.requires.policy c.args.s c.requires.node

pub row-requires-clause-node : goal.row-requires-clause-node
row-requires-clause-node g c = c.requires.node

pub row-requires-clause-choice : goal.row-requires-clause-choice
row-requires-clause-choice g c = can_take (g.P.ShortestPath.problem c.args.problem.now) c.args.policy.now c.requires.policy c.args.s c.requires.node

pub outer_sum-requires-clause-values : goal.outer_sum-requires-clause-values
outer_sum-requires-clause-values g c = subst (λ n. All (λ t. t < n) c.row.result.targets.now) (sym c.requires.values) c.row.ensures.in_range

pub outer_sum-requires-clause-active : goal.outer_sum-requires-clause-active
outer_sum-requires-clause-active g c = subst (λ n. All (λ t. t < n) c.row.result.targets.now) (sym c.requires.active) c.row.ensures.in_range
