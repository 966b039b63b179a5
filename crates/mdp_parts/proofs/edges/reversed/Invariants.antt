use Rattle.std.proofs.Common.{[], replicate, get_or}
use Rattle.mdp_rows.specs.Preds.{is_among}
use Rattle.mdp_graph.proofs.EdgeFacts.{AreAdded, before}
use Rattle.mdp_parts.proofs.edges.reversed.Given as goal

abbrev pub invariant-loop-s : goal.invariant-loop-s
invariant-loop-s l = AreAdded (replicate l.states []) l.back (before l.s (λ x t. is_among t (get_or l.edges x [])))
