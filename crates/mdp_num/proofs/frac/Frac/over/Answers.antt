use Rattle.std.proofs.{Common.{◌%◌, ℕ, ℤ, to_z-of_z, arith, sym, ◌∙◌, ap, subst}, lemmas.Int.{ints}}
use Rattle.std.specs.Prelude.{FitsSigned}
use mir.Syntax.{w64}
use Rattle.mdp_math.specs.Rational.{ratio}
use Rattle.mdp_num.proofs.Over.{over-den_le, over-whole, over-num, over-fits, over-is, numerator-bits, factor-bits, product-bits}
use Rattle.mdp_num.proofs.Values.{result-bits, whole-bits}
use Rattle.mdp_num.proofs.frac.Frac.over.Goals as goal

pub returns-in_default-clause-none : goal.returns-in_default-clause-none
returns-in_default-clause-none c = λ n o.
    let z = result-bits c.den.result c.den.type_inv ∙ c.den.ensures.value in
    let l = over-den_le c.args.self.now n c.args.den c.requires o.same in
    c.in_default.ensures (let r = c.ranges.den in omega (arith, ints, z, l, r))

pub returns-in_default-try_from-clause-none : goal.returns-in_default-try_from-clause-none
returns-in_default-try_from-clause-none c = λ n o.
    c.in_default-try_from.ensures (subst (FitsSigned w64) (sym (result-bits c.num.result c.num.type_inv ∙ c.num.ensures.value)) (over-fits c.args.self.now n c.args.den c.requires o.same o.long))

pub returns-then-den-own-ne0-clause-none : goal.returns-then-den-own-ne0-clause-none
returns-then-den-own-ne0-clause-none c = λ n o.
    c.if-den-own-ne0.true (ap (λ (k : ℕ). c.args.den % k) (whole-bits _ _ _ c.den.type_inv c.den.ensures.value c.in-Ok.ensures.1) ∙ over-whole c.args.self.now n c.args.den c.requires o.same)

pub overflow_mul-from : goal.overflow_mul-from
overflow_mul-from c = (product-bits _ _ _ _ _ (numerator-bits _ _ _ _ c.num.type_inv c.num.ensures.value c.in-Ok-try_from.ensures.0 c.in-Ok-try_from.ensures.1 c.from.type_inv c.from.ensures)
    (factor-bits _ _ _ _ c.from-2.type_inv c.from-2.ensures (whole-bits _ _ _ c.den.type_inv c.den.ensures.value c.in-Ok.ensures.1)) c.ranges.den.fits).0

pub returns-in-Ok-try_from-2-clause-value : goal.returns-in-Ok-try_from-2-clause-value
returns-in-Ok-try_from-2-clause-value c =
    let own = whole-bits _ _ _ c.den.type_inv c.den.ensures.value c.in-Ok.ensures.1 in
    let product = product-bits _ _ _ _ _ (numerator-bits _ _ _ _ c.num.type_inv c.num.ensures.value c.in-Ok-try_from.ensures.0 c.in-Ok-try_from.ensures.1 c.from.type_inv c.from.ensures)
    (factor-bits _ _ _ _ c.from-2.type_inv c.from-2.ensures own) c.ranges.den.fits in
    let scaled = c.in-Ok-try_from-2.ensures in
    let fits = subst (FitsSigned w64) (sym scaled.1) scaled.0 in
    record {
      long = subst (FitsSigned w64) (sym (to_z-of_z fits)) fits;
      same =
          over-is c.args.self.now c.args.den c.requires (ap (λ (k : ℕ). c.args.den % k) (sym own) ∙ c.if-den-own-ne0.false)
          ∙ ap (λ (m : ℤ). ratio m c.args.den) (sym (to_z-of_z fits ∙ scaled.1 ∙ product.1));
    }

pub returns-in-Err-clause-none : goal.returns-in-Err-clause-none
returns-in-Err-clause-none c = λ n o.
    let product = product-bits _ _ _ _ _ (numerator-bits _ _ _ _ c.num.type_inv c.num.ensures.value c.in-Ok-try_from.ensures.0 c.in-Ok-try_from.ensures.1 c.from.type_inv c.from.ensures)
    (factor-bits _ _ _ _ c.from-2.type_inv c.from-2.ensures (whole-bits _ _ _ c.den.type_inv c.den.ensures.value c.in-Ok.ensures.1)) c.ranges.den.fits in
    c.in-Err.ensures (subst (FitsSigned w64) (sym (product.1 ∙ over-num c.args.self.now n c.args.den c.requires o.same)) o.long)
