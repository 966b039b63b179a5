use Rattle.std.proofs.Common.{◌≡◌, ◌+◌, ◌==◌, not, drop}
use Rattle.std.specs.List.{prefix_len}
use Rattle.mdp_drn.proofs.line.count_before.Given as goal

abbrev pub invariant-loop-place : goal.invariant-loop-place
invariant-loop-place l = prefix_len (λ c. not (c == l.stop)) l.bytes ≡ l.place + prefix_len (λ c. not (c == l.stop)) (drop l.place l.bytes)
