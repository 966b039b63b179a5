use Rattle.std.proofs.{Common.{◌<◌, ℕ, arith, sym, ◌∙◌, ap, subst}, lemmas.Int.{ints}, lemmas.Nat.Gcd.{dvd_of_mod-eq-zero}}
use Rattle.mdp_math.specs.Gcd.{lcm, gcd-pos}
use Rattle.mdp_math.proofs.{Laws.{den-pos}, Lcm.{lcm-ge_right, lcm-factor, lcm-multiple}}
use Rattle.mdp_num.proofs.Values.{result-bits, whole-bits}
use Rattle.mdp_num.proofs.frac.Frac.common_multiple.Goals as goal

pub returns-in_default-clause-long : goal.returns-in_default-clause-long
returns-in_default-clause-long c =
    let z = result-bits c.den.result c.den.type_inv ∙ c.den.ensures.value in
    let l = lcm-ge_right c.args.number c.args.self.now.den c.requires (den-pos c.args.self.now) in
    let n = c.in_default.ensures in
    grind (arith, ints, z, l, n)

pub returns-then-number-den-eq0-clause-value : goal.returns-then-number-den-eq0-clause-value
returns-then-number-den-eq0-clause-value c =
    let m = dvd_of_mod-eq-zero c.in-Ok.den c.if-number-den-eq0.true in
    let e = whole-bits _ _ _ c.den.type_inv c.den.ensures.value c.in-Ok.ensures.1 in
    sym (ap (λ (d : ℕ). lcm c.args.number d) (sym e) ∙ lcm-multiple c.args.number c.in-Ok.den (subst (λ (d : ℕ). 0 < d) (sym e) (den-pos c.args.self.now)) m)

pub returns-then-den-number-eq0-clause-value : goal.returns-then-den-number-eq0-clause-value
returns-then-den-number-eq0-clause-value c =
    let m = dvd_of_mod-eq-zero c.args.number c.if-den-number-eq0.true in
    let e = whole-bits _ _ _ c.den.type_inv c.den.ensures.value c.in-Ok.ensures.1 in
    sym (ap (λ (d : ℕ). lcm c.args.number d) (sym e) ∙ lcm-factor c.args.number c.in-Ok.den c.requires m)

pub nonzero_div-number : goal.nonzero_div-number
nonzero_div-number c =
    let e = whole-bits _ _ _ c.den.type_inv c.den.ensures.value c.in-Ok.ensures.1 in
    let p = subst (λ (d : ℕ). 0 < d) (sym e) (den-pos c.args.self.now) in
    subst (λ (d : ℕ). 0 < d) (sym c.small_divisor.ensures) (gcd-pos c.args.number c.in-Ok.den p)
