use Rattle.mdp_search_bounds.proofs.Nearness.{near_each}
use Rattle.mdp_search_bounds.proofs.mean.AveragingSearch.exact.Goals as goal

pub returns-in-Ok-clause-near : goal.returns-in-Ok-clause-near
returns-in-Ok-clause-near c digits =
    near_each digits c.args.self.now.model.now c.in_ok-bounds_of-in-Ok.field-0.lower.items c.in_ok-bounds_of-in-Ok.field-0.upper.items (c.in_ok-bounds_of-in-Ok.ensures {u = tt}).same
