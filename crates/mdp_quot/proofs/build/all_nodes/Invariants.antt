use Rattle.std.proofs.Common.{◌≡◌, [], map, take, slice_index_or}
use Rattle.std.specs.List.{range_with_len}
use Rattle.mdp_ends.specs.Quotient.{nodes_in}
use Rattle.mdp_quot.specs.{Quotient.{rows_by}, QuotientView.{rows_in}, Sums.{IsClear}}
use Rattle.mdp_quot.proofs.build.all_nodes.Given as goal

abbrev pub invariant-loop-q : goal.invariant-loop-q
invariant-loop-q l =
    (map (λ x. x.component) l.nodes.items ≡ take l.q l.numbering.components.items)
    × (map (λ x. x.exits.now) l.nodes.items ≡ take l.q l.lists)
    × (map rows_in l.nodes.items ≡ map (λ k. rows_by l.model l.numbering.nodes.items k (slice_index_or l.lists k [])) (range_with_len 0 l.q))
    × IsClear (nodes_in l.numbering.nodes.items) l.sums.sums.items l.sums.seen.items
