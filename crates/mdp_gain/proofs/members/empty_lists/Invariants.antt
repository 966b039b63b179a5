use Rattle.std.proofs.Common.{◌≡◌, [], replicate}
use Rattle.mdp_gain.proofs.members.empty_lists.Given as goal

abbrev pub invariant-loop : goal.invariant-loop
invariant-loop l = l.lists.items ≡ replicate l.counter []
