use Rattle.mdp_command_bounds_search.proofs.WitnessSolved.{text_is_shown, text_excludes, text_is_accepted}
use Rattle.mdp_command_bounds_search.proofs.laws.bounds_witness_law.Goals as goal

pub returns-clause-shown : goal.returns-clause-shown
returns-clause-shown c = text_is_shown c.subsystem_bounds_text_law.ensures.back c.subsystem_bounds_law.ensures.bound

pub returns-clause-refusals : goal.returns-clause-refusals
returns-clause-refusals c = text_excludes c.subsystem_bounds_law.ensures.rules

pub returns-clause-accepted : goal.returns-clause-accepted
returns-clause-accepted c = text_is_accepted
