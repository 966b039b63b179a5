use Rattle.std.proofs.Common.{ℕ, ℤ, pos, ◌<◌, unsigned_abs, int_lt, sym, ap, ap₂, ◌∙◌, subst}
use Rattle.mdp_math.specs.{Gcd.{gcd, gcd_comm}, Rational.{ℚ, ratio}, Written.{signed}}
use Rattle.mdp_math.proofs.Laws.{coprime}
use Rattle.mdp_num.proofs.{Values.{num-bits, den-bits}, Signs.{num-nonzero, reciprocal_is}}
use Rattle.mdp_num.proofs.frac.Frac.reciprocal.Goals as goal

pub from_lowest-requires-clause-some : goal.from_lowest-requires-clause-some
from_lowest-requires-clause-some c =
    subst (λ (k : ℕ). 0 < k) (sym (c.unsigned_abs-2.ensures.value ∙ ap unsigned_abs (num-bits _ _ c.self.view_is c.self.invariant))) (num-nonzero c.args.self.now c.requires)

pub from_lowest-requires-clause-lowest : goal.from_lowest-requires-clause-lowest
from_lowest-requires-clause-lowest c =
    ap₂ gcd (c.unsigned_abs.ensures.value ∙ ap unsigned_abs (den-bits _ _ c.self.view_is c.self.invariant))
    (c.unsigned_abs-2.ensures.value ∙ ap unsigned_abs (num-bits _ _ c.self.view_is c.self.invariant))
    ∙ gcd_comm (ℚ.den c.args.self.now) (unsigned_abs (ℚ.num c.args.self.now)) ∙ coprime c.args.self.now

pub returns : goal.returns
returns c =
    let num = num-bits _ _ c.self.view_is c.self.invariant in
    let den = c.unsigned_abs.ensures.value ∙ ap unsigned_abs (den-bits _ _ c.self.view_is c.self.invariant) in
    c.from_lowest.ensures
    ∙ ap₂ (λ (n : ℤ) (d : ℕ). ratio n d) (ap₂ (λ (z : ℤ) (d : ℕ). signed (int_lt z (pos 0)) d) num den) (c.unsigned_abs-2.ensures.value ∙ ap unsigned_abs num)
    ∙ reciprocal_is c.args.self.now
