use Rattle.std.proofs.Common.{◌≡◌, Ok}
use Rattle.mdp_policy_iteration.specs.Places.{up_to}
use Rattle.mdp_unichain.specs.Written.{improved_at}
use Rattle.mdp_gain.specs.{Code.{values_in}, Policies.{under}}
use Rattle.mdp_gain.proofs.comparison.Valued.improved.Given as goal

abbrev pub invariant-loop-s : goal.invariant-loop-s
invariant-loop-s l = up_to (under l.self.chosen improved_at (values_in l.self.values.now)) l.s ≡ Ok l.choices.items
