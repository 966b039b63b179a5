use Rattle.std.proofs.Common.{◌≡◌, ◌<◌, ◌^◌, drop, unsigned_abs}
use Rattle.mdp_horizon.specs.{Scaled.{total_of}, BoundsCode.{plain_terms, values_of}}
use Rattle.mdp_horizon.proofs.choice.ScaledChoice.total.Given as goal

abbrev pub invariant-loop-i : goal.invariant-loop-i
invariant-loop-i l = record {
  rest : total_of (values_of l.column) l.self.scale.start (plain_terms l.self.terms) ≡ total_of (values_of l.column) l.total (drop l.i (plain_terms l.self.terms));
  narrow : unsigned_abs l.total < 2 ^ 127;
}
