use Rattle.mdp_quot.proofs.{Queries.{steps_once, outer_once, steps_end, outer_end, steps_are_longest, outer_is_best}, OuterOfAll.{none_is_better}}
use Rattle.mdp_quot.proofs.{StepsOfAll.{none_takes_more}, Leaving.{chosen_exits_leave, outer_policies_leave}}
use Rattle.mdp_quot.proofs.exits_laws.exits_law.Goals as goal

pub returns-clause-longest_once : goal.returns-clause-longest_once
returns-clause-longest_once c = steps_once

pub returns-clause-outer_once : goal.returns-clause-outer_once
returns-clause-outer_once c = outer_once

pub returns-clause-longest_ends : goal.returns-clause-longest_ends
returns-clause-longest_ends c = steps_end c.path_law.ensures.one_end

pub returns-clause-outer_ends : goal.returns-clause-outer_ends
returns-clause-outer_ends c = outer_end c.path_law.ensures.one_end

pub returns-clause-longest : goal.returns-clause-longest
returns-clause-longest c = steps_are_longest c.path_law.ensures.best

pub returns-clause-best : goal.returns-clause-best
returns-clause-best c = outer_is_best c.path_law.ensures.best

pub returns-clause-none_longer : goal.returns-clause-none_longer
returns-clause-none_longer c = none_takes_more

pub returns-clause-none_better : goal.returns-clause-none_better
returns-clause-none_better c = none_is_better

pub returns-clause-longest_leaves : goal.returns-clause-longest_leaves
returns-clause-longest_leaves c = chosen_exits_leave c.evaluation_law.ensures.one_value

pub returns-clause-outer_leaves : goal.returns-clause-outer_leaves
returns-clause-outer_leaves c = outer_policies_leave c.evaluation_law.ensures.one_value
