use Rattle.mdp_subsystem_search.proofs.Sides.{lie_between}
use Rattle.mdp_subsystem_search.proofs.query.Query.holds.Goals as goal

pub returns-in-Yes-clause-between : goal.returns-in-Yes-clause-between
returns-in-Yes-clause-between c e =
    lie_between c.args.self.now.dir c.args.sub.now c.args.self.now.goals.now c.args.cert.now.lower.items c.args.cert.now.upper.items c.args.cert.now.choices.items c.in-Yes.ensures.max c.in-Yes.ensures.min
