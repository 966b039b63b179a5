use Rattle.mdp_subsystem_search.proofs.Answered.{found_ones, found_rules, found_sizes}
use Rattle.mdp_subsystem_search.proofs.search.search_subsystem.Goals as goal

pub returns-clause-rules : goal.returns-clause-rules
returns-clause-rules c = found_rules c.args.dir c.args.model.now c.args.goals.now c.args.start c.args.threshold c.in_ok-found.found (c.in_ok-found.ensures {u = tt}).found

pub returns-clause-ones : goal.returns-clause-ones
returns-clause-ones c = found_ones c.args.dir c.args.model.now c.args.goals.now c.args.start c.args.threshold c.in_ok-found.found (c.in_ok-found.ensures {u = tt}).found

pub returns-clause-lower : goal.returns-clause-lower
returns-clause-lower c = (found_sizes c.args.dir c.args.model.now c.args.goals.now c.args.start c.args.threshold c.in_ok-found.found (c.in_ok-found.ensures {u = tt}).found).lower

pub returns-clause-choices : goal.returns-clause-choices
returns-clause-choices c = (found_sizes c.args.dir c.args.model.now c.args.goals.now c.args.start c.args.threshold c.in_ok-found.found (c.in_ok-found.ensures {u = tt}).found).choices

pub returns-clause-ranks : goal.returns-clause-ranks
returns-clause-ranks c = (found_sizes c.args.dir c.args.model.now c.args.goals.now c.args.start c.args.threshold c.in_ok-found.found (c.in_ok-found.ensures {u = tt}).found).ranks
