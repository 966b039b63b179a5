use Rattle.std.proofs.Common.{◌≡◌, map, take}
use Rattle.mdp_spec.specs.Mdp.{value_at}
use Rattle.mdp_gain.proofs.solve.values_at.Given as goal

abbrev pub invariant-loop-s : goal.invariant-loop-s
invariant-loop-s l = l.list.items ≡ map (value_at l.values) (take l.s-index l.states)
