use Rattle.std.proofs.Common.{take}
use Rattle.mdp_rows.proofs.Queries.Preds.{IsPushed}
use Rattle.mdp_rows.proofs.preds.push_row.Given as goal

abbrev pub invariant-loop-t : goal.invariant-loop-t
invariant-loop-t l = IsPushed l.initial.lists.items l.lists.items (take l.t-index l.targets) l.pred
