use Rattle.mdp_claims.proofs.Numbers.{one_rule_each, number-in_range, rule_has_number}
use Rattle.mdp_claims.proofs.laws.numbers_law.Goals as goal

pub returns-clause-one_each : goal.returns-clause-one_each
returns-clause-one_each c = one_rule_each

pub returns-clause-all : goal.returns-clause-all
returns-clause-all c = λ n. (number-in_range n, rule_has_number n)
