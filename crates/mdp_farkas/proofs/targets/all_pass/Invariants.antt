use Rattle.std.proofs.Common.{◌≡◌, true, take}
use Rattle.std.specs.List.{list_all}
use Rattle.mdp_farkas.proofs.targets.all_pass.Given as goal

abbrev pub invariant-loop-t : goal.invariant-loop-t
invariant-loop-t g l = list_all (g.T.StateTest.test l.test) (take l.t-index l.targets) ≡ true
