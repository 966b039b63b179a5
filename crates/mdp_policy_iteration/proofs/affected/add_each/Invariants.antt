use Rattle.std.proofs.Common.{take}
use Rattle.mdp_rows.specs.Preds.{is_among}
use Rattle.mdp_policy_iteration.specs.Marked.{AreAdded}
use Rattle.mdp_policy_iteration.proofs.affected.add_each.Given as goal

abbrev pub invariant-loop-s : goal.invariant-loop-s
invariant-loop-s l = AreAdded (λ s. is_among s (take l.s-index l.nodes)) l.initial.marks l.marks l.initial.found.items l.found.items
