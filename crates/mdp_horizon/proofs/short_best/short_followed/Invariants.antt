use Rattle.std.proofs.Common.{◌≡◌, drop, map}
use Rattle.mdp_horizon.specs.{Columns.{followed, followed_from}, Short.{known}, BoundsCode.{plain_short, plain_leader}}
use Rattle.mdp_horizon.proofs.short_best.short_followed.Given as goal

abbrev pub invariant-loop-c : goal.invariant-loop-c
invariant-loop-c l = followed l.dir (known l.values) (map plain_short l.choices) ≡ followed_from l.dir (known l.values) l.c (plain_leader l.leader) (drop l.c (map plain_short l.choices))
