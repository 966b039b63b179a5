use Rattle.std.proofs.Common.{Some}
use Rattle.mdp_num.specs.Numeral.{Decimal}
use Rattle.mdp_num.proofs.Meaning.{terms-all_within}
use Rattle.mdp_num.proofs.numeral.terms.Goals as goal

pub returns-in-Some-Decimal-clause-within : goal.returns-in-Some-Decimal-clause-within
returns-in-Some-Decimal-clause-within c =
    let parts = c.in-Some-Decimal in
    terms-all_within (Some (Decimal parts.whole.now parts.places.now parts.negative parts.exponent.now)) _ c.decimal.ensures
