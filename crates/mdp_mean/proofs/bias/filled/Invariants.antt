use Rattle.std.proofs.Common.{◌≡◌, map}
use Rattle.std.specs.List.{range_with_len}
use Rattle.mdp_elim.specs.System.{is_active}
use Rattle.mdp_mean.specs.Join.{filled_by}
use Rattle.mdp_mean.proofs.bias.filled.Given as goal

abbrev pub invariant-loop-s : goal.invariant-loop-s
invariant-loop-s l = l.values.items ≡ map (λ s. filled_by l.solution l.join.inner.now s (is_active l.join.active.now s)) (range_with_len 0 l.s)
