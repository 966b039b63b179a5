use Rattle.std.proofs.{Common.{inr, length, ap, sym, subst, ◌∙◌, ◌-◌}, lemmas.Result.{err_from_is_err_and}}
use Rattle.std.specs.Vec.{with_items}
use Rattle.mdp_rows.specs.{ChoiceTable.{ChoiceTable}, FlatDraft.{IsDraft}, Draft.{kept}, Given.{row_of}}
use Rattle.mdp_rows.proofs.Assembled.Closing.{is_closing, closes_as, closing_len, closing_items, closing_distribution, closing_row, is_with_closing, unmarked}
use Rattle.mdp_rows.proofs.{Assembled.Drafts.{nothing_to_close, row_refused, row_kept, is_with_row}, Assembled.Outcomes.{at_ok, at_err}}
use Rattle.mdp_rows.proofs.assembly.Assembly.end_row.Goals as goal

pub returns-in_default : goal.returns-in_default
returns-in_default c = record { follows = nothing_to_close c.self.inside _ c.self.view_is c.in_default.not-InRow }

pub invariant_of-self : goal.invariant_of-self
invariant_of-self c =
    let h = is_closing c.self.inside c.sort_row.new.row c.close_row.new.row _ _ c.deref_mut.ensures.value c.sort_row.ensures c.deref_mut-2.ensures.value c.close_row.ensures.targets in
    is_with_closing c.self.inside _ _ c.self.invariant h c.in-InRow.is

pub returns-in_err-close_row : goal.returns-in_err-close_row
returns-in_err-close_row c =
    let p = err_from_is_err_and c.from_residual.result c.from_residual.ensures.1 in
    record {
      follows = rw (p.1, p.2) (inr (row_refused c.self.inside _ c.states-state.result _ c.in_err-close_row.field-0.0 c.self.view_is c.self.invariant
          (record { stage = c.in-InRow.is; state = c.states-state.ensures; choice = ap (λ n. n - c.self.inside.first_choice) c.len.ensures })
          (closes_as c.self.inside c.sort_row.new.row c.close_row.new.row _ _ c.deref_mut.ensures.value c.sort_row.ensures c.deref_mut-2.ensures.value c.self.inside.rule _ _ _
          (c.in_err-close_row.ensures {u = tt}).refused)));
    }

pub push-requires-clause-distribution : goal.push-requires-clause-distribution
push-requires-clause-distribution c =
    let h = is_closing c.self.inside c.sort_row.new.row c.close_row.new.row _ _ c.deref_mut.ensures.value c.sort_row.ensures c.deref_mut-2.ensures.value c.close_row.ensures.targets in
    rw (c.deref.ensures.value ∙ closing_items c.self.inside _ _ c.self.invariant h)
    (closing_distribution c.self.inside c.self.inside.rule _ _ (kept (row_of c.close_row.new.row)) c.self.invariant
    (closes_as c.self.inside c.sort_row.new.row c.close_row.new.row _ _ c.deref_mut.ensures.value c.sort_row.ensures c.deref_mut-2.ensures.value c.self.inside.rule _ _ _
    (c.in_ok-close_row.ensures {u = tt}).closed))

pub invariant_of-self-then-is_err : goal.invariant_of-self-then-is_err
invariant_of-self-then-is_err c =
    let h = is_closing c.self.inside c.sort_row.new.row c.close_row.new.row _ _ c.deref_mut.ensures.value c.sort_row.ensures c.deref_mut-2.ensures.value c.close_row.ensures.targets in
    let u = at_err c.push.result c.if-is_err.ensures.negation c.push.ensures.unchanged in
    subst (λ (x : ChoiceTable). IsDraft (record c.self.inside { choices = x; row = with_items (with_items c.self.inside.row c.sort_row.new.row) c.close_row.new.row })) (sym u)
    (is_with_closing c.self.inside _ _ c.self.invariant h c.in-InRow.is)

pub unmark-requires : goal.unmark-requires
unmark-requires c =
    let h = is_closing c.self.inside c.sort_row.new.row c.close_row.new.row _ _ c.deref_mut.ensures.value c.sort_row.ensures c.deref_mut-2.ensures.value c.close_row.ensures.targets in
    let g = closing_row c.self.inside _ _ c.self.invariant h in
    rw (c.deref-3.ensures.value ∙ closing_items c.self.inside _ _ c.self.invariant h, g.as_many) g.in_range

pub invariant_of-self-2 : goal.invariant_of-self-2
invariant_of-self-2 c =
    let h = is_closing c.self.inside c.sort_row.new.row c.close_row.new.row _ _ c.deref_mut.ensures.value c.sort_row.ensures c.deref_mut-2.ensures.value c.close_row.ensures.targets in
    let i = closing_items c.self.inside _ _ c.self.invariant h in
    let g = rw (c.deref.ensures.value ∙ i, c.deref-2.ensures.value) at (at_ok c.push.result c.if-is_err.ensures.negation c.push.ensures.appended) in
    is_with_row c.self.inside _ _ c.close_row.new.row c.states-state.result _ c.self.invariant
    (record { stage = c.in-InRow.is; state = c.states-state.ensures; choice = ap (λ n. n - c.self.inside.first_choice) c.len.ensures })
    _ (closing_row c.self.inside _ _ c.self.invariant h) (closing_len c.self.inside _ _ c.self.invariant h)
    (unmarked c.self.inside _ _ _ _ c.self.invariant h (c.deref-3.ensures.value ∙ i) c.unmark.ensures.as_many c.unmark.ensures.unmarked) g c.clear.ensures.items

pub returns : goal.returns
returns c =
    let h = is_closing c.self.inside c.sort_row.new.row c.close_row.new.row _ _ c.deref_mut.ensures.value c.sort_row.ensures c.deref_mut-2.ensures.value c.close_row.ensures.targets in
    let i = closing_items c.self.inside _ _ c.self.invariant h in
    let g = rw (c.deref.ensures.value ∙ i, c.deref-2.ensures.value) at (at_ok c.push.result c.if-is_err.ensures.negation c.push.ensures.appended) in
    record {
      follows = row_kept c.self.inside _ _ c.close_row.new.row c.states-state.result _ c.self.invariant
          (record { stage = c.in-InRow.is; state = c.states-state.ensures; choice = ap (λ n. n - c.self.inside.first_choice) c.len.ensures })
          _ (closing_row c.self.inside _ _ c.self.invariant h) (closing_len c.self.inside _ _ c.self.invariant h)
          (unmarked c.self.inside _ _ _ _ c.self.invariant h (c.deref-3.ensures.value ∙ i) c.unmark.ensures.as_many c.unmark.ensures.unmarked) g c.clear.ensures.items _ c.self.view_is
          (closes_as c.self.inside c.sort_row.new.row c.close_row.new.row _ _ c.deref_mut.ensures.value c.sort_row.ensures c.deref_mut-2.ensures.value c.self.inside.rule _ _ _
          (c.in_ok-close_row.ensures {u = tt}).closed);
    }

pub push-requires-clause-one_each : goal.push-requires-clause-one_each
push-requires-clause-one_each c = ap length c.deref-2.ensures.value ∙ c.self.invariant.head.summed c.in-InRow.is
