use Rattle.std.proofs.Common.{◌≡◌, length}
use Rattle.mdp_subsystem_search.proofs.removal.cleared.Given as goal

abbrev pub invariant-loop-s : goal.invariant-loop-s
invariant-loop-s l = length l.fewer ≡ l.states
