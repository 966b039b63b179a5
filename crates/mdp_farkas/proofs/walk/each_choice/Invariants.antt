use Rattle.std.proofs.Common.{◌≡◌, [], ◌∷◌}
use Rattle.std.specs.{Prelude.{Ok}, List.{flat_map, range_with_len}}
use Rattle.mdp_farkas.specs.Verdict.{objection_to}
use Rattle.mdp_farkas.proofs.walk.each_choice.Given as goal

-- nothing stands against the checks at the choices below c
abbrev pub invariant-loop-c : goal.invariant-loop-c
invariant-loop-c g l = Ok tt ≡ objection_to (flat_map (λ i. g.C.OneCheck.check l.check i ∷ []) (range_with_len 0 l.c))
