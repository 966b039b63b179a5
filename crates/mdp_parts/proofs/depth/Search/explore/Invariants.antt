use Rattle.std.proofs.Common.{◌≡◌, ℕ, true}
use Rattle.mdp_graph.specs.Sets.{marked}
use Rattle.mdp_parts.specs.Searched.{IsSearch, work_left}
use Rattle.mdp_parts.proofs.depth.Search.explore.Given as goal

abbrev pub invariant-loop-self : goal.invariant-loop-self
invariant-loop-self l = record {
  search : IsSearch l.edges l.self.way.items l.self.next.items l.self.met l.self.done.items;
  met : marked l.self.met l.root ≡ true;
  kept : (s : ℕ) → marked l.fn.self.met s ≡ true → marked l.self.met s ≡ true;
}

abbrev pub decreases-loop-self : goal.decreases-loop-self
decreases-loop-self l = work_left l.self.way.items l.self.met
