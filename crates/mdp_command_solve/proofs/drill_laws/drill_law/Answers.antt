use Rattle.mdp_command_solve.proofs.Drilled.{due-once, greatest-due}
use Rattle.mdp_command_solve.proofs.drill_laws.drill_law.Goals as goal

pub returns-clause-once : goal.returns-clause-once
returns-clause-once c = due-once

pub returns-clause-greatest : goal.returns-clause-greatest
returns-clause-greatest c = λ number layers width text shape due.
    greatest-due c.layered_law.ensures.states c.layered_law.ensures.choices number layers width shape c.layered_law.ensures.rows c.query_law.ensures.max text due
