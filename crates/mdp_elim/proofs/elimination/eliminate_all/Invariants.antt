use Rattle.std.proofs.Common.{◌≡◌, ◌+◌, length}
use Rattle.mdp_elim.specs.{Elimination.{solution, CanEliminate}, Finish.{finish, LeadDown}, Predecessors.{IsLinked}}
use Rattle.mdp_elim.proofs.elimination.eliminate_all.Given as goal

abbrev pub invariant-loop-s : goal.invariant-loop-s
invariant-loop-s l = record {
  same : solution (length l.fn.equations.items) l.fn.equations.items ≡ finish l.s l.done.items (solution l.s l.left.equations.items);
  can : CanEliminate l.s l.left.equations.items;
  linked : IsLinked l.s l.s l.left.lists.items l.left.equations.items;
  down : LeadDown l.s l.done.items;
  count : length l.done.items + l.s ≡ length l.fn.equations.items;
}

abbrev pub decreases-loop-s : goal.decreases-loop-s
decreases-loop-s l = l.s
