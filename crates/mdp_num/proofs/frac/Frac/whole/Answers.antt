use Rattle.std.proofs.{Common.{arith, ◌∙◌, ap, sym, pos, to_z-of_z}, lemmas.Int.{ints}}
use mir.Syntax.{w64}
use Rattle.mdp_math.specs.{Gcd.{gcd-one_right}, Rational.{of_int}}
use Rattle.mdp_math.proofs.Laws.{num-of_int, den-of_int}
use Rattle.mdp_num.proofs.Values.{result-bits, value_from_terms}
use Rattle.mdp_num.proofs.frac.Frac.whole.Goals as goal

pub invariant_of-result : goal.invariant_of-result
invariant_of-result c = record {
  positive = omega (arith, ints);
  lowest = gcd-one_right _;
  narrow_num = omega (arith, ints);
  narrow_den = omega arith;
}

pub returns : goal.returns
returns c = value_from_terms _ (of_int c.args.n)
    (result-bits _ c.from.type_inv ∙ c.from.ensures ∙ to_z-of_z {w = w64} c.ranges.n ∙ sym (num-of_int c.args.n))
    (ap pos (sym (den-of_int c.args.n)))
