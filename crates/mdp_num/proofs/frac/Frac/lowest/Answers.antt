use Rattle.std.proofs.Common.{pos, unsigned_abs, to_z, of_z, to_z-of_z, sym, ap, ◌∙◌}
use mir.Syntax.{w128}
use Rattle.mdp_math.specs.Rational.{ratio}
use Rattle.mdp_num.proofs.{Values.{AreTerms, divisor-bits, quotient-bits, divisor-positive, terms-positive, terms-lowest, value_from_terms}, Sums.{ratio-terms}}
use Rattle.mdp_num.specs.Inside.{abs-pos}
use Rattle.mdp_num.proofs.frac.Frac.lowest.Goals as goal

pub divided-requires : goal.divided-requires
divided-requires c = divisor-positive _ _ _ (abs-pos c.args.divisor c.requires.divisor_positive)
    (divisor-bits _ _ _ _ _ (to_z-of_z c.ranges.num) (to_z-of_z c.ranges.divisor) c.common_divisor-shared.type_inv c.common_divisor-shared.ensures)

pub divided-requires-2 : goal.divided-requires-2
divided-requires-2 c = divisor-positive _ _ _ (abs-pos c.args.divisor c.requires.divisor_positive)
    (divisor-bits _ _ _ _ _ (to_z-of_z c.ranges.num) (to_z-of_z c.ranges.divisor) c.common_divisor-shared.type_inv c.common_divisor-shared.ensures)

terms : (c : goal.After-divided-2) → AreTerms (ratio c.args.num (unsigned_abs c.args.den)) (to_z w128 (of_z w128 c.divided.result)) (to_z w128 (of_z w128 c.divided-2.result))
terms c =
    let h = divisor-bits _ _ _ _ _ (to_z-of_z c.ranges.num) (to_z-of_z c.ranges.divisor) c.common_divisor-shared.type_inv c.common_divisor-shared.ensures ∙ ap pos (sym c.requires.shared) in
    ratio-terms c.args.num c.args.den _ _ c.requires.den_positive c.requires.num_narrow c.requires.den_narrow
    (quotient-bits _ _ _ _ _ (to_z-of_z c.ranges.num) h c.divided.type_inv c.divided.ensures)
    (quotient-bits _ _ _ _ _ (to_z-of_z c.ranges.den) h c.divided-2.type_inv c.divided-2.ensures)

pub invariant_of-result : goal.invariant_of-result
invariant_of-result c = let t = terms c in record {
  positive = terms-positive _ _ _ t;
  lowest = terms-lowest _ _ _ t;
  narrow_num = t.narrow_top;
  narrow_den = t.narrow_bottom;
}

pub returns : goal.returns
returns c = let t = terms c in value_from_terms _ (ratio c.args.num (unsigned_abs c.args.den)) t.top t.bottom
