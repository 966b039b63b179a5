use Rattle.std.proofs.Common.{sym, subst}
use Rattle.mdp_num.specs.Meaning.{IsWithinLimit}
use Rattle.mdp_rows.proofs.CutModels.{one_within}
use Rattle.mdp_gain.proofs.alone.give_entry_to.Goals as goal

pub entry-requires-clause-term : goal.entry-requires-clause-term
entry-requires-clause-term c = subst IsWithinLimit (sym c.whole.ensures) one_within
