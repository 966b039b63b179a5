use Rattle.std.proofs.Common.{◌<◌, ◌⊎◌}
use Rattle.mdp_elim.specs.Predecessors.{IsListed, ListsMore, LeadsTo}
use Rattle.mdp_elim.proofs.Targets.{HoldsBefore}
use Rattle.mdp_elim.proofs.predecessors.list_new.Given as goal

abbrev pub invariant-loop-x : goal.invariant-loop-x
invariant-loop-x l = record {
  listed : HoldsBefore (λ v. l.t < v → LeadsTo l.row v ⊎ IsListed l.lists v l.t) l.source l.x-index;
  more : ListsMore l.initial.lists l.lists;
}
