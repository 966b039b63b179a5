use Rattle.std.proofs.Common.{◌≡◌, length}
use Rattle.mdp_elim.proofs.Lists.{AreEmpty}
use Rattle.mdp_elim.proofs.predecessors.empty_lists.Given as goal

abbrev pub invariant-loop : goal.invariant-loop
invariant-loop l = record {
  count : length l.lists.items ≡ l.counter;
  empty : AreEmpty l.lists.items;
}
