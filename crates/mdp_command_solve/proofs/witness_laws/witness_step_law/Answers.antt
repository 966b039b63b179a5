use Rattle.mdp_command_solve.proofs.{WitnessDues.{due_once, text_is_witness, below_is_best}, WitnessPrinting.{text_is_accepted}}
use Rattle.mdp_command_solve.proofs.witness_laws.witness_step_law.Goals as goal

pub returns-clause-once : goal.returns-clause-once
returns-clause-once c = due_once c.witness_law.ensures.one_end

pub returns-clause-accepted : goal.returns-clause-accepted
returns-clause-accepted c = text_is_accepted

pub returns-clause-witness : goal.returns-clause-witness
returns-clause-witness c = λ dir stay label threshold m text mdp due.
    text_is_witness dir stay label threshold m mdp c.witness_law.ensures.holds c.witness_law.ensures.sub_max c.witness_law.ensures.sub_min c.witness_law.ensures.policy
    c.witness_law.ensures.needed_max c.witness_law.ensures.needed_min c.witness_law.ensures.wide_max c.witness_law.ensures.wide_min text due

pub returns-clause-below : goal.returns-clause-below
returns-clause-below c = λ dir stay label threshold m v mdp due. below_is_best dir stay label threshold m mdp c.witness_law.ensures.below v due
