use Rattle.std.proofs.Common.{◌≡◌, ◌&&◌, ℕ, not, take}
use Rattle.mdp_rows.specs.Preds.{is_among}
use Rattle.mdp_graph.specs.Forest.{attached}
use Rattle.mdp_graph.proofs.forest.unattached.Given as goal

abbrev pub invariant-loop-s : goal.invariant-loop-s
invariant-loop-s l = (s : ℕ) → is_among s l.list.items ≡ (is_among s (take l.s-index l.states) && not (attached l.goals l.ways s))
