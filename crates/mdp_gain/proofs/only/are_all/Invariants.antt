use Rattle.std.proofs.Common.{◌≡◌, false, take, not, ◌==◌}
use Rattle.std.specs.List.{list_any}
use Rattle.mdp_gain.proofs.only.are_all.Given as goal

abbrev pub invariant-loop-t : goal.invariant-loop-t
invariant-loop-t l = list_any (λ t. not (t == l.s)) (take l.t-index l.targets) ≡ false
