use Rattle.std.proofs.Common.{◌≡◌, ◌==◌, map}
use Rattle.std.specs.List.{range_with_len}
use Rattle.mdp_gain.proofs.start.one_state.Given as goal

abbrev pub invariant-loop-s : goal.invariant-loop-s
invariant-loop-s l = l.marks.items ≡ map (λ s. s == l.t) (range_with_len 0 l.s)
