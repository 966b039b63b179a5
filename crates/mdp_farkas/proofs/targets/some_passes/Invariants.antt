use Rattle.std.proofs.Common.{◌≡◌, false, take}
use Rattle.std.specs.List.{list_any}
use Rattle.mdp_farkas.proofs.targets.some_passes.Given as goal

abbrev pub invariant-loop-t : goal.invariant-loop-t
invariant-loop-t g l = list_any (g.T.StateTest.test l.test) (take l.t-index l.targets) ≡ false
