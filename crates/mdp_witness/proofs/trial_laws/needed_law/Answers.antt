use Rattle.mdp_witness.proofs.Needed.{max_needed, min_needed}
use Rattle.mdp_witness.proofs.trial_laws.needed_law.Goals as goal

pub returns-clause-max : goal.returns-clause-max
returns-clause-max c = λ m goals z policy ranks start threshold first kept wide last x known rules is inside left keeps sure.
    max_needed m goals z policy ranks start threshold first kept wide last x known rules is inside left keeps sure

pub returns-clause-min : goal.returns-clause-min
returns-clause-min c = λ m goals start threshold first kept wide last x known inside left keeps sure.
    min_needed c.query_law.ensures.one_end c.query_law.ensures.min m goals start threshold first kept wide last x known inside left keeps sure
