use Rattle.mdp_witness.proofs.Floor.{evaluates_cut, sizes_cut, ranks_cut, cut_goals}
use Rattle.mdp_witness.proofs.min_trials.Subsystems.evaluate.Goals as goal

pub solve_reach-requires : goal.solve_reach-requires
solve_reach-requires c = cut_goals c.args.self.now.model.now c.in_ok-cut.cut c.args.self.now.goals.now c.args.set.now c.args.self.now.goals_each (c.in_ok-cut.ensures {u = tt})

pub returns-clause-found : goal.returns-clause-found
returns-clause-found c = evaluates_cut c.args.self.now.model.now c.in_ok-cut.cut c.args.self.now.goals.now c.args.set.now c.solve_reach.result (c.in_ok-cut.ensures {u = tt}) c.solve_reach.ensures.path

pub returns-clause-values : goal.returns-clause-values
returns-clause-values c =
    sizes_cut c.args.self.now.model.now c.in_ok-cut.cut c.args.self.now.goals.now c.args.set.now c.solve_reach.result (c.in_ok-cut.ensures {u = tt}) c.known.ensures.mdp c.path_law.ensures.best
    c.avoid_law.ensures.rest c.solve_reach.ensures.path

pub returns-clause-ranks : goal.returns-clause-ranks
returns-clause-ranks c =
    ranks_cut c.args.self.now.model.now c.in_ok-cut.cut c.args.self.now.goals.now c.args.set.now c.solve_reach.result (c.in_ok-cut.ensures {u = tt}) c.known.ensures.mdp c.path_law.ensures.best
    c.avoid_law.ensures.rest c.solve_reach.ensures.path
