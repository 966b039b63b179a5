use Rattle.std.proofs.Common.{◌≡◌, drop}
use Rattle.mdp_horizon.specs.{Columns.{followed, followed_from}, BoundsCode.{values_of, plain_choices}}
use Rattle.mdp_horizon.proofs.best.wide_followed.Given as goal

abbrev pub invariant-loop-c : goal.invariant-loop-c
invariant-loop-c l = followed l.dir (values_of l.column) (plain_choices l.choices) ≡ followed_from l.dir (values_of l.column) l.c l.leader (drop l.c (plain_choices l.choices))
