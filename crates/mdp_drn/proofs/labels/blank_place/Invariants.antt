use Rattle.std.proofs.Common.{◌≡◌, ◌+◌, not, drop}
use Rattle.std.specs.List.{prefix_len}
use Rattle.mdp_drn.specs.Lines.{is_blank}
use Rattle.mdp_drn.proofs.labels.blank_place.Given as goal

abbrev pub invariant-loop-place : goal.invariant-loop-place
invariant-loop-place l = prefix_len (λ c. not (is_blank c)) l.bytes ≡ l.place + prefix_len (λ c. not (is_blank c)) (drop l.place l.bytes)
