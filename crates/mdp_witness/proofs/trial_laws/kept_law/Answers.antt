use Rattle.mdp_witness.proofs.Kept.{kept_flow, kept_floor}
use Rattle.mdp_witness.proofs.trial_laws.kept_law.Goals as goal

pub returns-clause-max : goal.returns-clause-max
returns-clause-max c = λ m goals z policy ranks start threshold first kept wide last known rules is inside reaches left.
    kept_flow m goals z policy ranks start threshold first kept wide last known rules is inside reaches left

pub returns-clause-min : goal.returns-clause-min
returns-clause-min c = λ m goals z policy ranks start threshold first kept wide last known rules is inside reaches left.
    kept_floor c.query_law.ensures.one_end c.query_law.ensures.rules c.query_law.ensures.min m goals z policy ranks start threshold first kept wide last known rules is inside reaches left
