use Rattle.mdp_gain.proofs.GainLaws.{has_one_query_end, answers_are_best, has_one_gain, no_policy_is_better, no_tree_more, no_tree_less}
use Rattle.mdp_gain.proofs.laws.gain_law.Goals as goal

pub returns-clause-one_end : goal.returns-clause-one_end
returns-clause-one_end c = has_one_query_end c.solution_law.ensures.solves

pub returns-clause-best : goal.returns-clause-best
returns-clause-best c = answers_are_best c.solution_law.ensures.solves

pub returns-clause-only : goal.returns-clause-only
returns-clause-only c = has_one_gain

pub returns-clause-policies : goal.returns-clause-policies
returns-clause-policies c = no_policy_is_better

pub returns-clause-more : goal.returns-clause-more
returns-clause-more c = no_tree_more

pub returns-clause-less : goal.returns-clause-less
returns-clause-less c = no_tree_less
