use Rattle.std.proofs.Common.{◌+◌}
use Rattle.mdp_elim.specs.Predecessors.{IsLinked}
use Rattle.mdp_elim.proofs.Putting.{IsPutBelow}
use Rattle.mdp_elim.proofs.elimination.System.substitute_in_each.Given as goal

abbrev pub invariant-loop-t : goal.invariant-loop-t
invariant-loop-t l = record {
  linked : IsLinked l.s (l.s + 1) l.self.lists.items l.self.equations.items;
  put : IsPutBelow l.s l.pivot l.states l.t-index l.initial.self.equations.items l.self.equations.items;
}
