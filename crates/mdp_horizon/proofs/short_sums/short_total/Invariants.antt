use Rattle.std.proofs.Common.{◌≡◌, ◌+◌, ◌*◌, ◌≤◌, ◌^◌, drop, unsigned_abs}
use Rattle.mdp_horizon.specs.{Scaled.{total_of}, Short.{wide_terms, weights_of, known}}
use Rattle.mdp_horizon.proofs.short_sums.short_total.Given as goal

abbrev pub invariant-loop-term : goal.invariant-loop-term
invariant-loop-term l = record {
  rest : total_of (known l.values) l.start (wide_terms l.short.terms.now) ≡ total_of (known l.values) l.total (wide_terms (drop l.term-index l.short.terms.now));
  room : unsigned_abs l.total + weights_of (drop l.term-index l.short.terms.now) * 2 ^ 63 ≤ 2 ^ 126;
}
