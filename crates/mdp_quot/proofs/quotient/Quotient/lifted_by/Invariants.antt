use Rattle.std.proofs.Common.{◌≡◌, map, get_or}
use Rattle.std.specs.List.{range_with_len}
use Rattle.mdp_ends.specs.Toward.{lifted_choice}
use Rattle.mdp_quot.proofs.quotient.Quotient.lifted_by.Given as goal

abbrev pub invariant-loop-s : goal.invariant-loop-s
invariant-loop-s l = l.policy.items ≡ map (λ s. lifted_choice l.model l.ends.parts l.self.nodes s (get_or l.inner s 0) (get_or l.outer (get_or l.self.nodes s 0) 0)) (range_with_len 0 l.s)
