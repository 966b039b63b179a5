use Rattle.std.proofs.Common.{arith, sym, ap, ◌∙◌}
use Rattle.mdp_spec.specs.Mdp.{Choice}
use Rattle.mdp_rows.proofs.Flat.Models.{states_are, choices_after, targets_in_range}
use Rattle.mdp_rows.proofs.model.Model.row.Goals as goal

pub index-requires : goal.index-requires
index-requires c = omega (arith, states_are _ _ c.self.invariant c.self.view_is)

pub overflow_add-index : goal.overflow_add-index
overflow_add-index c =
    let f = choices_after _ _ c.args.s _ c.self.invariant c.self.view_is c.requires.state c.index.ensures in
    omega (arith, f.next.within, f.count, c.self.invariant.few_rows)

pub row-requires : goal.row-requires
row-requires c =
    let f = choices_after _ _ c.args.s _ c.self.invariant c.self.view_is c.requires.state c.index.ensures in
    omega (arith, f.next.within, f.count)

pub returns-clause-row : goal.returns-clause-row
returns-clause-row c =
    let f = choices_after _ _ c.args.s _ c.self.invariant c.self.view_is c.requires.state c.index.ensures in
    c.row.ensures ∙ ap (λ (x : Choice). x.row) (sym (f.choice c.args.c c.requires.choice))

pub returns-clause-in_range : goal.returns-clause-in_range
returns-clause-in_range c =
    let f = choices_after _ _ c.args.s _ c.self.invariant c.self.view_is c.requires.state c.index.ensures in
    targets_in_range _ _ _ _ _ c.self.invariant c.self.view_is (omega (arith, f.next.within, f.count)) c.row.result.same_length c.row.ensures
