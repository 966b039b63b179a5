use Rattle.std.proofs.Common.{rules, ◌∙◌, ap, ap₂, ◌*ℤ◌, to_z, of_z}
use mir.Syntax.{w128}
use Rattle.mdp_math.specs.{Rational.{◌*ℚ◌}, Written.{narrow, written_mul}}
use Rattle.mdp_num.proofs.Values.{AreTerms, product-terms, terms-positive, terms-lowest, result-bits, written_kept, num-bits, den-bits, quotient-bits, divisor-positive}
use Rattle.mdp_num.proofs.frac.Frac.mul.Goals.{In_ok-den}
use Rattle.mdp_math.proofs.{Laws.{den-pos}, Written.{written_mul-past_num, written_mul-past_den}}
use Rattle.mdp_num.proofs.frac.Frac.mul.Goals as goal

pub divided-requires : goal.divided-requires
divided-requires c = divisor-positive _ _ _ (den-pos c.args.other.now) (result-bits _ c.cross_divisor-left.type_inv ∙ c.cross_divisor-left.ensures)

pub divided-requires-2 : goal.divided-requires-2
divided-requires-2 c = divisor-positive _ _ _ (den-pos c.args.self.now) (result-bits _ c.cross_divisor-right.type_inv ∙ c.cross_divisor-right.ensures)

pub divided-requires-3 : goal.divided-requires-3
divided-requires-3 c = divisor-positive _ _ _ (den-pos c.args.self.now) (result-bits _ c.cross_divisor-right.type_inv ∙ c.cross_divisor-right.ensures)

pub divided-requires-4 : goal.divided-requires-4
divided-requires-4 c = divisor-positive _ _ _ (den-pos c.args.other.now) (result-bits _ c.cross_divisor-left.type_inv ∙ c.cross_divisor-left.ensures)

pub returns-in_err-num : goal.returns-in_err-num
returns-in_err-num c =
    let past = written_mul-past_num c.args.self.now c.args.other.now (c.in_err-num.ensures ∙ ap narrow (ap₂ ◌*ℤ◌
    (quotient-bits _ _ _ _ _ (num-bits _ _ c.self.view_is c.self.invariant) (result-bits _ c.cross_divisor-left.type_inv ∙ c.cross_divisor-left.ensures) c.divided.type_inv c.divided.ensures)
    (quotient-bits _ _ _ _ _ (num-bits _ _ c.other.view_is c.other.invariant)
    (result-bits _ c.cross_divisor-right.type_inv ∙ c.cross_divisor-right.ensures) c.divided-2.type_inv c.divided-2.ensures))) in
    search (rules, past)

pub returns-in_err-den : goal.returns-in_err-den
returns-in_err-den c =
    let past = written_mul-past_den c.args.self.now c.args.other.now (c.in_err-den.ensures ∙ ap narrow (ap₂ ◌*ℤ◌
    (quotient-bits _ _ _ _ _ (den-bits _ _ c.self.view_is c.self.invariant) (result-bits _ c.cross_divisor-right.type_inv ∙ c.cross_divisor-right.ensures) c.divided-3.type_inv c.divided-3.ensures)
    (quotient-bits _ _ _ _ _ (den-bits _ _ c.other.view_is c.other.invariant)
    (result-bits _ c.cross_divisor-left.type_inv ∙ c.cross_divisor-left.ensures) c.divided-4.type_inv c.divided-4.ensures))) in
    search (rules, past)

terms : (c : In_ok-den) → AreTerms (c.args.self.now *ℚ c.args.other.now) (to_z w128 (of_z w128 c.in_ok-num.num)) (to_z w128 (of_z w128 c.in_ok-den.den))
terms c = product-terms _ _ _ _ _ _ _ _ c.in_ok-num.ensures c.in_ok-den.ensures
    (quotient-bits _ _ _ _ _ (num-bits _ _ c.self.view_is c.self.invariant) (result-bits _ c.cross_divisor-left.type_inv ∙ c.cross_divisor-left.ensures) c.divided.type_inv c.divided.ensures)
    (quotient-bits _ _ _ _ _ (num-bits _ _ c.other.view_is c.other.invariant) (result-bits _ c.cross_divisor-right.type_inv ∙ c.cross_divisor-right.ensures) c.divided-2.type_inv c.divided-2.ensures)
    (quotient-bits _ _ _ _ _ (den-bits _ _ c.self.view_is c.self.invariant) (result-bits _ c.cross_divisor-right.type_inv ∙ c.cross_divisor-right.ensures) c.divided-3.type_inv c.divided-3.ensures)
    (quotient-bits _ _ _ _ _ (den-bits _ _ c.other.view_is c.other.invariant) (result-bits _ c.cross_divisor-left.type_inv ∙ c.cross_divisor-left.ensures) c.divided-4.type_inv c.divided-4.ensures)

pub invariant_of-result : goal.invariant_of-result
invariant_of-result c = record {
  positive = terms-positive _ _ _ (terms c);
  lowest = terms-lowest _ _ _ (terms c);
  narrow_num = AreTerms.narrow_top (terms c);
  narrow_den = AreTerms.narrow_bottom (terms c);
}

pub returns : goal.returns
unfolding written_mul
returns c = let t = terms (goal.at.returns c).In_ok-den in written_kept _ (c.args.self.now *ℚ c.args.other.now) t.top t.bottom t.narrow_top t.narrow_bottom
