use Rattle.std.proofs.{Common.{◌≡◌, ◌<◌, ◌≤◌, ◌^◌, ◌∙◌, subst, ℕ, ap, ap₂, arith, pos, unsigned_abs}, lemmas.Int.{to_z_pos}}
use mir.Syntax.{w128}
use Rattle.mdp_math.specs.{Gcd.{gcd, gcd-le_right}, Rational.{ℚ}}
use Rattle.mdp_math.proofs.Laws.{den-pos}
use Rattle.mdp_num.specs.Value.{IsNarrow}
use Rattle.mdp_num.proofs.{Values.{den-bits}, Past.{either-past}, frac.Frac.divisor_or_wide.Goals.{After-divisor_above}}
use Rattle.mdp_num.proofs.frac.Frac.divisor_or_wide.Goals as goal

dens-are : (c : After-divisor_above) → gcd c.unsigned_abs.result c.unsigned_abs-2.result ≡ gcd (ℚ.den c.args.self.now) (ℚ.den c.args.other.now)
dens-are c = ap₂ gcd (c.unsigned_abs.ensures.value ∙ ap unsigned_abs (den-bits _ _ c.self.view_is c.self.invariant))
    (c.unsigned_abs-2.ensures.value ∙ ap unsigned_abs (den-bits _ _ c.other.view_is c.other.invariant))

small : (c : After-divisor_above) (n : ℕ) → n ≡ gcd c.unsigned_abs.result c.unsigned_abs-2.result → n < 2 ^ 127
small c n e =
    let f : n ≡ gcd (ℚ.den c.args.self.now) (ℚ.den c.args.other.now) = e ∙ dens-are c in
    let l = gcd-le_right (ℚ.den c.args.self.now) (ℚ.den c.args.other.now) (den-pos c.args.other.now) in
    let h = IsNarrow.bottom c.wide_bound.ensures.narrow in
    omega (arith, f, l, h)

pub overflow_cast-result : goal.overflow_cast-result
overflow_cast-result c = record { sfits = small (goal.at.overflow_cast-result c).After-divisor_above c.in-Some.divisor c.in-Some.ensures.found }

pub returns-in-Some-clause-value : goal.returns-in-Some-clause-value
returns-in-Some-clause-value c =
    let e = c.in-Some.ensures.found in
    to_z_pos w128 c.in-Some.divisor (small (goal.at.returns-in-Some-clause-value c).After-divisor_above c.in-Some.divisor e) ∙ ap pos (e ∙ dens-are (goal.at.returns-in-Some-clause-value c).After-divisor_above)

pub returns-in-None-clause-wide : goal.returns-in-None-clause-wide
returns-in-None-clause-wide c = either-past c.args.self.now c.args.other.now _ _ _ c.wide_bound.ensures.value c.wide_bound-2.ensures.value c.max-bound.ensures
    (subst (λ (n : ℕ). n ≤ c.max-bound.result) (dens-are (goal.at.returns-in-None-clause-wide c).After-divisor_above) c.in-None.ensures.small)

pub returns-then-bound-le-LONGEST-clause-narrow : goal.returns-then-bound-le-LONGEST-clause-narrow
returns-then-bound-le-LONGEST-clause-narrow c = c.wide_bound.ensures.narrow

pub returns-in-Some-clause-narrow : goal.returns-in-Some-clause-narrow
returns-in-Some-clause-narrow c = c.wide_bound.ensures.narrow

pub returns-in-None-clause-narrow : goal.returns-in-None-clause-narrow
returns-in-None-clause-narrow c = c.wide_bound.ensures.narrow
