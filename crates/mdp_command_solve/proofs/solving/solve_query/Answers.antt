use Rattle.std.proofs.Common.{IfOk, sym, subst}
use Rattle.mdp_job.specs.{Job.{plain_query}, declared.job.Query.{Query}}
use Rattle.mdp_command.specs.Said.{said}
use Rattle.mdp_command_solve.specs.Solved.{IsPrinted}
use Rattle.mdp_command_solve.proofs.solving.solve_query.Goals as goal

pub returns-in-Reach-clause-printed : goal.returns-in-Reach-clause-printed
returns-in-Reach-clause-printed c =
    subst (λ (q : Query). IfOk (said c.solve_label.result) (IsPrinted c.args.dir (plain_query q) c.args.model.now)) (sym c.in-Reach.is) c.solve_label.ensures.printed

pub returns-in-Until-clause-printed : goal.returns-in-Until-clause-printed
returns-in-Until-clause-printed c =
    subst (λ (q : Query). IfOk (said c.solve_label-in-Until.result) (IsPrinted c.args.dir (plain_query q) c.args.model.now)) (sym c.in-Until.is) c.solve_label-in-Until.ensures.printed

pub returns-in-Reward-clause-printed : goal.returns-in-Reward-clause-printed
returns-in-Reward-clause-printed c =
    subst (λ (q : Query). IfOk (said c.solve_named.result) (IsPrinted c.args.dir (plain_query q) c.args.model.now)) (sym c.in-Reward.is) c.solve_named.ensures.printed

pub returns-in-Mean-clause-printed : goal.returns-in-Mean-clause-printed
returns-in-Mean-clause-printed c =
    subst (λ (q : Query). IfOk (said c.solve_payoff.result) (IsPrinted c.args.dir (plain_query q) c.args.model.now)) (sym c.in-Mean.is) c.solve_payoff.ensures.printed
