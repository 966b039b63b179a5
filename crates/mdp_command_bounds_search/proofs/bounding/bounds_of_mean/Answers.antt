use Rattle.std.proofs.Common.{sym}
use Rattle.mdp_command_bounds_search.proofs.Printing.{mean_bounds}
use Rattle.mdp_command_bounds_search.proofs.bounding.bounds_of_mean.Goals as goal

pub returns-in-Ok-clause-found : goal.returns-in-Ok-clause-found
returns-in-Ok-clause-found c =
    let b = c.in-Ok.bounds in
    let e = c.in-Ok.ensures in
    mean_bounds c.args.dir c.args.name.now c.args.model.now c.in-Some.reward c.known.ensures.model.names.each (sym c.in-Some.ensures) b.lower.items b.upper.items b.bound.items
    b.bias.items b.spread b.choices.items e.rules e.lower e.upper e.bound e.bias e.choices

pub returns-in-Ok-clause-near : goal.returns-in-Ok-clause-near
returns-in-Ok-clause-near c = (c.in-Some.reward, sym c.in-Some.ensures, c.in-Ok.ensures.near)
