use Rattle.mdp_spec.proofs.Subsystem.{sub-whole}
use Rattle.mdp_subsystem_rules.proofs.Fewer.{reaches_more, reach_max_fewer, reach_min_fewer}
use Rattle.mdp_subsystem_rules.proofs.laws.fewer_law.Goals as goal

pub returns-clause-trees : goal.returns-clause-trees
returns-clause-trees c = λ m goals kept more known inc. reaches_more m goals kept more known inc

pub returns-clause-whole : goal.returns-clause-whole
returns-clause-whole c = λ m goals kept all. sub-whole m goals kept all

pub returns-clause-greatest : goal.returns-clause-greatest
returns-clause-greatest c = λ m goals kept more z w policy other s known inc h r t. reach_max_fewer m goals kept more known inc z w policy other s h r t

pub returns-clause-least : goal.returns-clause-least
returns-clause-least c = λ m goals kept more z w policy other s known inc h r t. reach_min_fewer m goals kept more known inc z w policy other s h r t
