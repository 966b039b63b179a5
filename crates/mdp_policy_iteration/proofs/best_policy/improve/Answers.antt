use Rattle.std.proofs.Common.{List, sym, subst}
use Rattle.mdp_math.specs.Rational.{ℚ}
use Rattle.mdp_policy_iteration.specs.{Evaluated.{HasRoom}, Laws.{IsBestFrom}, Ends.{IsLast}}
use Rattle.mdp_policy_iteration.proofs.best_policy.improve.Goals as goal

pub last_of-requires-clause-room : goal.last_of-requires-clause-room
last_of-requires-clause-room g c = subst (λ n. HasRoom n c.in_ok-evaluation.evaluation) c.count.ensures (c.in_ok-evaluation.ensures {u = tt})

pub returns-in-Ok-clause-path : goal.returns-in-Ok-clause-path
returns-in-Ok-clause-path g c =
    subst (λ (values : List ℚ). IsLast (g.P.ShortestPath.problem c.args.problem.now) c.args.start.items c.in-Ok.last.round c.in-Ok.last.policy.items values) (sym c.into_values.ensures)
    (c.in-Ok.ensures {u = tt}).path

pub returns-in-Ok-clause-best : goal.returns-in-Ok-clause-best
returns-in-Ok-clause-best g c =
    subst (λ (values : List ℚ). IsBestFrom (g.P.ShortestPath.problem c.args.problem.now) c.args.start.items c.in-Ok.last.policy.items values) (sym c.into_values.ensures)
    (c.in-Ok.ensures {u = tt}).best
