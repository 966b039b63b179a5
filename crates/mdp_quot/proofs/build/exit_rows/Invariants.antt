use Rattle.std.proofs.Common.{◌≡◌, map, take}
use Rattle.mdp_ends.specs.Quotient.{nodes_in, node_row}
use Rattle.mdp_quot.specs.{QuotientView.{row_in}, Sums.{IsClear}}
use Rattle.mdp_quot.proofs.build.exit_rows.Given as goal

abbrev pub invariant-loop-exit : goal.invariant-loop-exit
invariant-loop-exit l =
    (map row_in l.rows.items ≡ map (λ x. node_row l.model l.nodes x.state x.choice) (take l.exit-index l.exits)) × IsClear (nodes_in l.nodes) l.sums.sums.items l.sums.seen.items
