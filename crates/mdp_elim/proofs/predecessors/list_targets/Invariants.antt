use Rattle.std.proofs.Common.{ℕ, ◌<◌, get_or}
use Rattle.mdp_spec.specs.Mdp.{Entry}
use Rattle.mdp_elim.specs.Predecessors.{IsListed, ListsMore}
use Rattle.mdp_elim.proofs.predecessors.list_targets.Given as goal

abbrev pub invariant-loop-x : goal.invariant-loop-x
invariant-loop-x l = record {
  listed : (k : ℕ) (d : Entry) → k < l.x-index → l.t < Entry.target (get_or l.row k d) → IsListed l.lists (get_or l.row k d).target l.t;
  more : ListsMore l.initial.lists l.lists;
}
