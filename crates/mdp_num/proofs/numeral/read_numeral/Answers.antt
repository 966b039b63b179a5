use Rattle.mdp_num.specs.Meaning.{IsWithinLimit}
use Rattle.std.proofs.Common.{subst, sym}
use Rattle.mdp_num.proofs.Meaning.{value-within}
use Rattle.mdp_num.proofs.numeral.read_numeral.Goals as goal

pub returns-clause-within : goal.returns-clause-within
returns-clause-within c = subst IsWithinLimit (sym c.from_terms.ensures) (value-within (c.in_ok-num.num, c.in_ok-num.den) c.in_ok-num.ensures.within)
