use Rattle.mdp_rows.proofs.Flat.RowsGrown.{no_rows, are_no_rows}
use Rattle.mdp_rows.proofs.rows.Rows.new.Goals as goal

pub invariant_of-result : goal.invariant_of-result
invariant_of-result c = are_no_rows _ (c.in_ok-vec.ensures {u = tt}).items c.new.ensures.items c.new-2.ensures.items

pub returns : goal.returns
returns c = no_rows _ (c.in_ok-vec.ensures {u = tt}).items c.new.ensures.items c.new-2.ensures.items
