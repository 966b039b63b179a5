use Rattle.std.proofs.Common.{ℕ, ◌<◌, sym, ◌∙◌, subst, false}
use Rattle.mdp_math.specs.Gcd.{gcd-pos}
use Rattle.mdp_num.proofs.Values.{quotient-pos, quotients-lowest, ratio_reduced}
use Rattle.mdp_num.proofs.frac.Frac.from_terms.Goals as goal

pub nonzero_div-num : goal.nonzero_div-num
nonzero_div-num c = subst (λ (k : ℕ). 0 < k) (sym c.greatest_common_divisor-divisor.ensures) (gcd-pos c.args.num c.args.den c.requires.some)

pub nonzero_div-den : goal.nonzero_div-den
nonzero_div-den c = subst (λ (k : ℕ). 0 < k) (sym c.greatest_common_divisor-divisor.ensures) (gcd-pos c.args.num c.args.den c.requires.some)

pub from_lowest-requires-clause-some : goal.from_lowest-requires-clause-some
from_lowest-requires-clause-some c = quotient-pos c.args.num c.args.den _ c.requires.some c.greatest_common_divisor-divisor.ensures

pub from_lowest-requires-clause-lowest : goal.from_lowest-requires-clause-lowest
from_lowest-requires-clause-lowest c = quotients-lowest c.args.num c.args.den _ c.requires.some c.greatest_common_divisor-divisor.ensures

pub returns : goal.returns
returns c = c.from_lowest.ensures ∙ ratio_reduced false c.args.num c.args.den _ c.requires.some c.greatest_common_divisor-divisor.ensures
