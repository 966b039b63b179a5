use Rattle.std.proofs.Common.{◌≡◌, drop}
use Rattle.mdp_rows.specs.Draft.{summed_rewards}
use Rattle.mdp_rows.proofs.Assembled.Sums.{sums_then}
use Rattle.mdp_rows.proofs.rewards.add_rewards.Given as goal

abbrev pub invariant-loop-i : goal.invariant-loop-i
invariant-loop-i l = summed_rewards l.own l.given ≡ sums_then l.sums.items (summed_rewards (drop l.i l.own) (drop l.i l.given))
