use Rattle.std.proofs.Common.{arith}
use Rattle.mdp_rows.proofs.{Flat.Rows.{rows_len, lent}, Flat.Pieces.{next_places}}
use Rattle.mdp_rows.proofs.rows.Rows.row.Goals as goal

pub index-requires : goal.index-requires
index-requires c = omega (arith, rows_len _ _ c.self.view_is)

pub index-requires-2 : goal.index-requires-2
index-requires-2 c = omega (arith, rows_len _ _ c.self.view_is)

pub slice_bounds-result-count : goal.slice_bounds-result-count
slice_bounds-result-count c =
    let f = next_places _ _ c.args.i _ _ c.self.invariant.places (omega (arith, rows_len _ _ c.self.view_is)) c.index.ensures c.index-2.ensures in
    omega (arith, f.ordered)

pub slice_bounds-result-start : goal.slice_bounds-result-start
slice_bounds-result-start c =
    let f = next_places _ _ c.args.i _ _ c.self.invariant.places (omega (arith, rows_len _ _ c.self.view_is)) c.index.ensures c.index-2.ensures in
    omega (arith, f.ordered)

pub slice_bounds-result-end : goal.slice_bounds-result-end
slice_bounds-result-end c =
    let f = next_places _ _ c.args.i _ _ c.self.invariant.places (omega (arith, rows_len _ _ c.self.view_is)) c.index.ensures c.index-2.ensures in
    omega (arith, f.within, c.as_slice-targets.ensures.len)

pub slice_bounds-result-count-2 : goal.slice_bounds-result-count-2
slice_bounds-result-count-2 c =
    let f = next_places _ _ c.args.i _ _ c.self.invariant.places (omega (arith, rows_len _ _ c.self.view_is)) c.index.ensures c.index-2.ensures in
    omega (arith, f.ordered)

pub slice_bounds-result-start-2 : goal.slice_bounds-result-start-2
slice_bounds-result-start-2 c =
    let f = next_places _ _ c.args.i _ _ c.self.invariant.places (omega (arith, rows_len _ _ c.self.view_is)) c.index.ensures c.index-2.ensures in
    omega (arith, f.ordered)

pub slice_bounds-result-end-2 : goal.slice_bounds-result-end-2
slice_bounds-result-end-2 c =
    let f = next_places _ _ c.args.i _ _ c.self.invariant.places (omega (arith, rows_len _ _ c.self.view_is)) c.index.ensures c.index-2.ensures in
    omega (arith, f.within, c.as_slice-probs.ensures.len, c.self.invariant.same_length)

pub invariant_of-result : goal.invariant_of-result
invariant_of-result c =
    let f = lent _ _ c.args.i _ _ _ _ c.self.invariant c.self.view_is c.requires c.index.ensures c.index-2.ensures c.as_slice-targets.ensures.value c.as_slice-probs.ensures.value in
    record { same_length = f.same_length; distribution = f.distribution }

pub returns : goal.returns
returns c =
    let f = lent _ _ c.args.i _ _ _ _ c.self.invariant c.self.view_is c.requires c.index.ensures c.index-2.ensures c.as_slice-targets.ensures.value c.as_slice-probs.ensures.value in
    f.row
