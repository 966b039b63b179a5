use Rattle.std.proofs.Common.{◌≡◌, ℕ, ◌<◌, true, []}
use Rattle.mdp_graph.specs.Sets.{marked}
use Rattle.mdp_parts.specs.Searched.{IsSearch}
use Rattle.mdp_parts.proofs.depth.depth_order.Given as goal

abbrev pub invariant-loop-root : goal.invariant-loop-root
invariant-loop-root l = record {
  search : IsSearch l.edges l.search.way.items l.search.next.items l.search.met l.search.done.items;
  begun : l.search.way.items ≡ [];
  seen : (s : ℕ) → s < l.root → marked l.search.met s ≡ true;
}
