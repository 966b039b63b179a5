use Rattle.std.proofs.Common.{refl}
use Rattle.mdp_gain.proofs.only.inner_of.Goals as goal

pub returns : goal.returns
returns c = rw ((c.in_ok-vec.ensures {u = tt}).items, (c.in_ok-vec-2.ensures {u = tt}).items, (c.in_ok-vec-3.ensures {u = tt}).items, c.whole.ensures) refl
