use Rattle.std.proofs.Common.{◌≡◌, ◌+◌, drop}
use Rattle.std.specs.List.{prefix_len}
use Rattle.mdp_drn.specs.Lines.{is_blank}
use Rattle.mdp_drn.proofs.line.blanks_before.Given as goal

abbrev pub invariant-loop-place : goal.invariant-loop-place
invariant-loop-place l = prefix_len is_blank l.bytes ≡ l.place + prefix_len is_blank (drop l.place l.bytes)
