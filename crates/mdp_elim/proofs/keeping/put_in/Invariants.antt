use Rattle.std.proofs.Common.{◌≡◌, ℕ, ◌-◌, ◌<◌, ◌≤◌, length, Some}
use Rattle.mdp_elim.specs.{Entries.{Between, reach}, Kept.{put_in}}
use Rattle.mdp_elim.proofs.keeping.put_in.Given as goal

abbrev pub invariant-loop-s : goal.invariant-loop-s
invariant-loop-s l =
    (h : ℕ) × (l.low < h) × (h ≤ length l.solved) × Between 0 h l.equation.entries
    × (put_in l.solved h (length l.solved - h) l.initial.equation ≡ Some l.equation)

abbrev pub decreases-loop-s : goal.decreases-loop-s
decreases-loop-s l = reach l.equation.entries
