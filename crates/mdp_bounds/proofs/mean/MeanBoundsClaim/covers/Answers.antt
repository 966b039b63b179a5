use Rattle.std.proofs.Common.{sym}
use Rattle.mdp_bounds.proofs.mean.MeanBoundsClaim.covers.Goals as goal

pub returns : goal.returns
returns c = rw (sym c.covering.ensures.values) c.on_each.ensures
