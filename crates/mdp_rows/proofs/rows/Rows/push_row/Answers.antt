use Rattle.std.proofs.Common.{◌≡◌, ℕ, ◌+◌, ◌<◌, ◌^◌, List, [], ◌∷◌, ◌++◌, length, sum_by, ap, ap₂, ◌∙◌, refl, arith}
use Rattle.mdp_spec.specs.Mdp.{Entry}
use Rattle.mdp_rows.specs.{Draft.{kept}, Given.{row_of}, FlatRows.{rows_in}}
use Rattle.mdp_rows.proofs.{Flat.Rows.{rows_len}, Flat.RowsGrown.{same_rows, same_are_rows, rows_grown, are_rows_grown, few_targets, on_err_of}}
use Rattle.mdp_rows.proofs.rows.Rows.push_row.Goals as goal

pub invariant_of-self : goal.invariant_of-self
invariant_of-self c = same_are_rows c.self.inside _ (record { starts = c.reserve.ensures.items; targets = refl; probs = refl }) c.self.invariant

pub returns-in_err-reserve-clause-unchanged : goal.returns-in_err-reserve-clause-unchanged
returns-in_err-reserve-clause-unchanged c =
    on_err_of c.from_residual.result (same_rows c.self.inside _ (record { starts = c.reserve.ensures.items; targets = refl; probs = refl }) ∙ c.self.view_is)

pub invariant_of-self-in_err-append_kept : goal.invariant_of-self-in_err-append_kept
invariant_of-self-in_err-append_kept c =
    let u = (c.in_err-append_kept.ensures {u = tt}).unchanged in
    same_are_rows c.self.inside _ (record { starts = c.reserve.ensures.items; targets = u.0; probs = u.1 }) c.self.invariant

pub returns-in_err-append_kept-clause-unchanged : goal.returns-in_err-append_kept-clause-unchanged
returns-in_err-append_kept-clause-unchanged c =
    let u = (c.in_err-append_kept.ensures {u = tt}).unchanged in
    on_err_of c.from_residual-in_err-append_kept.result (same_rows c.self.inside _ (record { starts = c.reserve.ensures.items; targets = u.0; probs = u.1 }) ∙ c.self.view_is)

pub overflow_cast-len : goal.overflow_cast-len
overflow_cast-len c =
    let e = c.in_ok-append_kept.ensures {u = tt} in
    let few : sum_by length (rows_in c.self.inside) + length c.args.row.now < 2 ^ 32 = rw c.self.view_is c.requires.few_entries in
    let n = few_targets c.self.inside _ c.args.row.now c.self.invariant e.targets few in
    omega (arith, c.len.ensures)

pub invariant_of-self-2 : goal.invariant_of-self-2
invariant_of-self-2 c =
    let e = c.in_ok-append_kept.ensures {u = tt} in
    let p = c.in_ok-push.ensures {u = tt} in
    let few : sum_by length (rows_in c.self.inside) + length c.args.row.now < 2 ^ 32 = rw c.self.view_is c.requires.few_entries in
    let end : c.len.result ≡ length c.append_kept.new.targets.items = omega (arith, c.len.ensures) in
    are_rows_grown c.self.inside _ c.args.row.now
    (record { targets = e.targets; probs = e.probs; starts = p.items ∙ ap₂ (λ (xs : List ℕ) (n : ℕ). xs ++ n ∷ []) c.reserve.ensures.items end })
    c.self.invariant c.requires.distribution (omega (arith, rows_len _ _ c.self.view_is, c.requires.few_rows)) few

pub returns-clause-appended : goal.returns-clause-appended
returns-clause-appended c =
    let e = c.in_ok-append_kept.ensures {u = tt} in
    let p = c.in_ok-push.ensures {u = tt} in
    let end : c.len.result ≡ length c.append_kept.new.targets.items = omega (arith, c.len.ensures) in
    rows_grown c.self.inside _ c.args.row.now
    (record { targets = e.targets; probs = e.probs; starts = p.items ∙ ap₂ (λ (xs : List ℕ) (n : ℕ). xs ++ n ∷ []) c.reserve.ensures.items end })
    c.self.invariant
    ∙ ap (λ (v : List (List Entry)). v ++ kept (row_of c.args.row.now) ∷ []) c.self.view_is

pub invariant_of-self-in_err-push : goal.invariant_of-self-in_err-push
invariant_of-self-in_err-push c = absurd (omega (arith, (c.in_ok-reserve.ensures {u = tt}).ok, (c.in_err-push.ensures {u = tt}).full))
