use Rattle.mdp_rows.proofs.Flat.Kept.{IsAppended}
use Rattle.mdp_rows.proofs.rows.append_kept.Given as goal

abbrev pub invariant-loop-given : goal.invariant-loop-given
invariant-loop-given l = IsAppended l.row l.given-index l.fn.targets.items l.fn.probs.items l.targets l.probs
