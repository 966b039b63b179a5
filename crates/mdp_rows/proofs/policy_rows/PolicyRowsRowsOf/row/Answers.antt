use Rattle.std.proofs.{Common.{arith, sym, ◌∙◌, zero-add}, lemmas.List.FromFn.{length-map-range_with_len, get_or-map-range_with_len}}
use Rattle.mdp_rows.proofs.policy_rows.PolicyRowsRowsOf.row.Goals as goal

pub bounds-self-s : goal.bounds-self-s
bounds-self-s c =
    let h = rw length-map-range_with_len at c.requires in
    let e = c.args.self.now.chosen.one_each in
    omega arith

pub row-requires-clause-state : goal.row-requires-clause-state
row-requires-clause-state c = rw length-map-range_with_len at c.requires

pub row-requires-clause-choice : goal.row-requires-clause-choice
row-requires-clause-choice c = c.args.self.now.chosen.in_range c.args.s (rw length-map-range_with_len at c.requires)

pub returns-clause-row : goal.returns-clause-row
returns-clause-row c =
    let h = rw length-map-range_with_len at c.requires in
    c.row.ensures.row ∙ sym (get_or-map-range_with_len _ 0 _ c.args.s c.args.s _ h (zero-add _))

pub returns-clause-in_range : goal.returns-clause-in_range
returns-clause-in_range c = rw length-map-range_with_len c.row.ensures.in_range
