use Rattle.std.proofs.Common.{◌≡◌, take}
use Rattle.mdp_spec.specs.Sub.{policy_on}
use Rattle.mdp_policy.proofs.way.policy_on.Given as goal

abbrev pub invariant-loop-s : goal.invariant-loop-s
invariant-loop-s l = l.choices.items ≡ take l.s (policy_on l.goals l.stay l.policy)
