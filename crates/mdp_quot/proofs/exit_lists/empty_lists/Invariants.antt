use Rattle.std.proofs.Common.{◌≡◌, [], replicate}
use Rattle.mdp_quot.proofs.exit_lists.empty_lists.Given as goal

abbrev pub invariant-loop : goal.invariant-loop
invariant-loop l = l.lists.items ≡ replicate l.counter []
