use Rattle.std.proofs.Common.{ℕ, ◌<◌, sym, ap, ◌∙◌, subst, inl, inr, Some}
use Rattle.mdp_math.specs.Gcd.{gcd-pos}
use Rattle.mdp_num.proofs.Values.{quotient-pos, quotients-lowest, reduced-kept, reduced-past}
use Rattle.mdp_num.proofs.frac.Frac.reduce.Goals as goal

pub nonzero_div-top : goal.nonzero_div-top
nonzero_div-top c = subst (λ (k : ℕ). 0 < k) (sym c.greatest_common_divisor-divisor.ensures) (gcd-pos c.args.num c.args.den c.requires)

pub nonzero_div-bottom : goal.nonzero_div-bottom
nonzero_div-bottom c = subst (λ (k : ℕ). 0 < k) (sym c.greatest_common_divisor-divisor.ensures) (gcd-pos c.args.num c.args.den c.requires)

pub returns-then-top-gt-WIDTH : goal.returns-then-top-gt-WIDTH
returns-then-top-gt-WIDTH c = elim c.then-top-gt-WIDTH.either [
  | inl u ↦ reduced-past _ _ _ _ c.requires c.greatest_common_divisor-divisor.ensures (inl u)
  | inr v ↦ reduced-past _ _ _ _ c.requires c.greatest_common_divisor-divisor.ensures (inr v.1)
]

pub from_lowest-requires-clause-some : goal.from_lowest-requires-clause-some
from_lowest-requires-clause-some c = quotient-pos c.args.num c.args.den _ c.requires c.greatest_common_divisor-divisor.ensures

pub from_lowest-requires-clause-lowest : goal.from_lowest-requires-clause-lowest
from_lowest-requires-clause-lowest c = quotients-lowest c.args.num c.args.den _ c.requires c.greatest_common_divisor-divisor.ensures

pub returns : goal.returns
returns c = ap Some c.from_lowest.ensures ∙ reduced-kept _ c.args.num c.args.den _ c.requires c.greatest_common_divisor-divisor.ensures c.if-top-gt-WIDTH.false c.if-bottom-gt-WIDTH.false
