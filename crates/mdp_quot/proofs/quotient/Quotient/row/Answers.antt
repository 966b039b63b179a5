use Rattle.std.proofs.Common.{arith}
use Rattle.mdp_quot.proofs.quotient.Quotient.row.Goals as goal

pub node_row-requires-clause-row : goal.node_row-requires-clause-row
node_row-requires-clause-row c = let w = c.known.ensures.each c.args.q c.requires.node in omega (arith, w.1, c.requires.exit)
