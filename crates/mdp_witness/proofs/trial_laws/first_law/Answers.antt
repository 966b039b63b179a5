use Rattle.mdp_witness.proofs.{FirstMin.{can_be_least_first}, Values.{can_be_first}}
use Rattle.mdp_witness.proofs.trial_laws.first_law.Goals as goal

pub returns-clause-first : goal.returns-clause-first
returns-clause-first c = λ m goals z policy ranks start threshold first known rules is inside reaches. can_be_first m goals z policy ranks start threshold first known rules is inside reaches

pub returns-clause-least : goal.returns-clause-least
returns-clause-least c = λ m goals z policy ranks start threshold first known rules is inside reaches.
    can_be_least_first m goals z policy ranks start threshold first known rules is inside reaches c.query_law.ensures.min
