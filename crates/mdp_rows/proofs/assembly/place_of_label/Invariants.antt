use Rattle.std.proofs.Common.{◌≡◌, ℕ, ◌<◌, false, nat_le, get_or}
use Rattle.mdp_rows.proofs.assembly.place_of_label.Given as goal

abbrev pub invariant-loop-i : goal.invariant-loop-i
invariant-loop-i l = (k : ℕ) → k < l.i → nat_le l.label (get_or l.places k 0) ≡ false
