use Rattle.std.proofs.Common.{◌≡◌, map, take}
use Rattle.mdp_horizon.specs.BoundsCode.{plain_choice, plain_short}
use Rattle.mdp_horizon.proofs.state_choices.short_choices.Given as goal

abbrev pub invariant-loop-c : goal.invariant-loop-c
invariant-loop-c l = map plain_short l.found.items ≡ map plain_choice (take l.c l.choices)
