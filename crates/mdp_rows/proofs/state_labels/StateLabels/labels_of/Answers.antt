use Rattle.std.proofs.Common.{arith, ap, ◌∙◌}
use Rattle.mdp_rows.specs.Pieces.{piece}
use Rattle.mdp_rows.proofs.{Flat.Pieces.{next_places, piece_is}, Flat.StateLabels.{states_are, of_state_is}}
use Rattle.mdp_rows.proofs.state_labels.StateLabels.labels_of.Goals as goal

pub index-requires : goal.index-requires
index-requires c = omega (arith, states_are _ _ c.self.view_is)

pub index-requires-2 : goal.index-requires-2
index-requires-2 c = omega (arith, states_are _ _ c.self.view_is)

pub slice_bounds-result-count : goal.slice_bounds-result-count
slice_bounds-result-count c =
    let f = next_places _ _ c.args.s _ _ c.self.invariant.places (omega (arith, states_are _ _ c.self.view_is)) c.index.ensures c.index-2.ensures in f.ordered

pub slice_bounds-result-start : goal.slice_bounds-result-start
slice_bounds-result-start c =
    let f = next_places _ _ c.args.s _ _ c.self.invariant.places (omega (arith, states_are _ _ c.self.view_is)) c.index.ensures c.index-2.ensures in omega (arith, f.ordered)

pub slice_bounds-result-end : goal.slice_bounds-result-end
slice_bounds-result-end c =
    let f = next_places _ _ c.args.s _ _ c.self.invariant.places (omega (arith, states_are _ _ c.self.view_is)) c.index.ensures c.index-2.ensures in
    omega (arith, f.within, c.as_slice-places.ensures.len)

pub returns : goal.returns
returns c =
    let f = next_places _ _ c.args.s _ _ c.self.invariant.places (omega (arith, states_are _ _ c.self.view_is)) c.index.ensures c.index-2.ensures in
    let e = piece_is _ _ _ c.args.s _ _ _ f (of_state_is _ _ c.self.view_is) in
    ap (λ xs. piece xs c.index.result.now c.index-2.result.now) c.as_slice-places.ensures.value ∙ e
