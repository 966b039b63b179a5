use Rattle.std.proofs.Common.{sym}
use Rattle.mdp_bounds.proofs.reach.reach_bounds_at_state.Goals as goal

pub returns : goal.returns
returns c =
    rw (sym c.deref.ensures.value, sym c.deref-2.ensures.value, sym c.deref-3.ensures.value, sym c.deref-4.ensures.value) c.check.ensures
