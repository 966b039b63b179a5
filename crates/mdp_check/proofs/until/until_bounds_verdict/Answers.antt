use Rattle.mdp_check.proofs.Ways.{yes_max_between, yes_min_between}
use Rattle.mdp_check.proofs.until.until_bounds_verdict.Goals as goal

pub returns-clause-max : goal.returns-clause-max
returns-clause-max c =
    λ e. yes_max_between c.args.model.now c.args.goals.now c.args.stay.now c.known.ensures.mdp c.in_ok-way.way c.in_ok-way.ensures.way c.holds_bounds_reach.result c.args.cert.now.lower.items
    c.args.cert.now.upper.items c.args.cert.now.choices.items (c.holds_bounds_reach.ensures.max e)

pub returns-clause-min : goal.returns-clause-min
returns-clause-min c =
    λ e. yes_min_between c.args.model.now c.args.goals.now c.args.stay.now c.known.ensures.mdp c.in_ok-way.way c.in_ok-way.ensures.way c.holds_bounds_reach.result c.args.cert.now.lower.items
    c.args.cert.now.upper.items c.args.cert.now.choices.items (c.holds_bounds_reach.ensures.min e)
