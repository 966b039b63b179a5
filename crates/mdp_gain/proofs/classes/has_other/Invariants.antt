use Rattle.std.proofs.Common.{◌≡◌, false, take, get_or, not, ◌==◌}
use Rattle.std.specs.List.{list_any}
use Rattle.mdp_gain.proofs.classes.has_other.Given as goal

abbrev pub invariant-loop-t : goal.invariant-loop-t
invariant-loop-t l = list_any (λ t. not (get_or l.parts t 0 == l.part)) (take l.t-index l.targets) ≡ false
