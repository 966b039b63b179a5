use Rattle.std.proofs.Common.{◌≡◌, ℕ, ◌<◌, false, nat_le, get_or}
use Rattle.mdp_elim.proofs.Merge.{no_entry}
use Rattle.mdp_elim.proofs.entries.place.Given as goal

abbrev pub invariant-loop-i : goal.invariant-loop-i
invariant-loop-i l = (k : ℕ) → k < l.i → nat_le l.target (get_or l.row k no_entry).target ≡ false
