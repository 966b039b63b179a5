use Rattle.std.proofs.Common.{◌≡◌, map, take, get_or}
use Rattle.mdp_gain.proofs.solve.choices_at.Given as goal

abbrev pub invariant-loop-s : goal.invariant-loop-s
invariant-loop-s l = l.choices.items ≡ map (λ s. get_or l.policy s 0) (take l.s-index l.states)
