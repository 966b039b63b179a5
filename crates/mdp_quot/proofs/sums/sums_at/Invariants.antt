use Rattle.std.proofs.Common.{◌≡◌, map, take}
use Rattle.mdp_spec.specs.Mdp.{value_at}
use Rattle.mdp_quot.proofs.sums.sums_at.Given as goal

abbrev pub invariant-loop-q : goal.invariant-loop-q
invariant-loop-q l = l.probs.items ≡ map (value_at l.sums) (take l.q-index l.nodes)
