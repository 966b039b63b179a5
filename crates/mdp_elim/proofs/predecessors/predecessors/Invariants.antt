use Rattle.std.proofs.Common.{◌≡◌, ℕ, ◌<◌, length}
use Rattle.mdp_elim.specs.Predecessors.{ListsTargets, HoldSmaller, at}
use Rattle.mdp_elim.proofs.predecessors.predecessors.Given as goal

abbrev pub invariant-loop-t : goal.invariant-loop-t
invariant-loop-t l = record {
  count : length l.lists.items ≡ length l.equations;
  listed : (t : ℕ) → t < l.t → ListsTargets l.lists.items t (at l.equations t).entries;
  smaller : HoldSmaller l.lists.items;
}
