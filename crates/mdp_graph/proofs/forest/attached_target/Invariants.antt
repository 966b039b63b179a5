use Rattle.std.proofs.Common.{◌≡◌, ℕ, true, false, take}
use Rattle.mdp_rows.specs.Preds.{is_among}
use Rattle.mdp_graph.specs.Forest.{attached}
use Rattle.mdp_graph.proofs.forest.attached_target.Given as goal

abbrev pub invariant-loop-t : goal.invariant-loop-t
invariant-loop-t l = (t : ℕ) → is_among t (take l.t-index l.targets) ≡ true → attached l.goals l.ways t ≡ false
