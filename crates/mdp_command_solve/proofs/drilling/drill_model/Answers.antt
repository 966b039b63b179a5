use Rattle.std.proofs.Common.{refl, inr}
use Rattle.mdp_reach.specs.Query as query
use Rattle.mdp_command_solve.proofs.Drilled.{answer-due, line-found}
use Rattle.mdp_command_solve.proofs.drilling.drill_model.Goals as goal

pub returns-in-Ok-line_of-clause-due : goal.returns-in-Ok-line_of-clause-due
returns-in-Ok-line_of-clause-due c =
    inr (answer-due c.args.number c.args.layers c.args.width c.args.model.now c.in-Ok.goals (query.plain c.in-Ok-solve_reach.answer) c.in-Ok-line_of.text.items
    c.in-Ok.ensures c.in-Ok-solve_reach.ensures.path c.in-Ok-line_of.ensures.spelled)

pub returns-in-Ok-line_of-clause-found : goal.returns-in-Ok-line_of-clause-found
returns-in-Ok-line_of-clause-found c =
    let e = c.in-Ok-solve_reach.ensures in
    line-found c.args.number c.args.layers c.args.width c.args.model.now c.in-Ok.goals (query.plain c.in-Ok-solve_reach.answer) c.in-Ok-line_of.text.items
    c.in-Ok.ensures e.path e.rules (e.max refl) e.each c.in-Ok-line_of.ensures.fits c.in-Ok-line_of.ensures.spelled
