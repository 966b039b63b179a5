use Rattle.mdp_rows.proofs.ShortSums.{product-read}
use Rattle.mdp_rows.proofs.row.Denominators.new.Goals as goal

pub invariant_of-result : goal.invariant_of-result
invariant_of-result c =
    let p = product-read _ _ _ _ _ c.from.type_inv c.from.ensures c.from-2.type_inv c.from-2.ensures c.in-Ok.ensures in
    record { some_probs = c.requires.probs; some_values = c.requires.values; is_product = p.0; narrow = p.1 }
