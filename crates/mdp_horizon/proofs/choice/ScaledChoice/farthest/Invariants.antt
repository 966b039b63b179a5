use Rattle.std.proofs.Common.{◌≡◌, drop}
use Rattle.mdp_horizon.specs.{Scaled.{farthest, farthest_from}, BoundsCode.{plain_terms, values_of}}
use Rattle.mdp_horizon.proofs.choice.ScaledChoice.farthest.Given as goal

abbrev pub invariant-loop-i : goal.invariant-loop-i
invariant-loop-i l = farthest l.side (values_of l.column) (plain_terms l.self.terms) ≡ farthest_from l.side (values_of l.column) l.far (drop l.i (plain_terms l.self.terms))
