use Rattle.std.proofs.Common.{◌≡◌, ℕ, List, Some, sym, ap, ◌∙◌, arith}
use Rattle.mdp_spec.specs.Unit.{row_den}
use Rattle.mdp_rows.specs.{Given.{row_of}, Parts.{parts as row_parts}, declared.given.Given.{Given}}
use Rattle.mdp_rows.proofs.ClosedRows.{IsSummed, closed-wide, refused_past, refused_diff, some_parts, closes_exact, refused_exact, closes_scaled, refused_wide}
use Rattle.mdp_rows.proofs.ClosedRows.Denominators.{within_limit, within-none, within-some, some_within, none_within}
use Rattle.mdp_rows.proofs.closing.close_row.Goals.{else-scale-via-then-scale+else-is_some, else-scale-via-else-scale}
use Rattle.mdp_rows.proofs.ClosedRows.Parts as parts
use Rattle.mdp_rows.proofs.closing.close_row.Goals as goal

-- the least common denominator, and the sum in parts of it
summed : (row : List Given) (den n : ℕ) → Some den ≡ within_limit (row_den (row_of row)) → Some n ≡ parts.sum_within den (row_parts den row) → IsSummed row den n
summed row den n e f = let d = within-some _ den e in record { common = d.0; within = d.1; sum = (parts.within-some den _ n f).0 }

pub returns-in_default-clause-refused : goal.returns-in_default-clause-refused
returns-in_default-clause-refused c = closed-wide c.args.state c.args.choice (row_of c.args.row.now) c.args.rule (within-none _ (c.in_default.ensures {u = tt}))

pub returns-in_default-sum_in_parts-clause-refused : goal.returns-in_default-sum_in_parts-clause-refused
returns-in_default-sum_in_parts-clause-refused c =
    let d = within-some _ c.in-Some.den (c.in-Some.ensures {u = tt}) in
    refused_past c.args.rule c.args.state c.args.choice c.args.row.now c.in-Some.den d.0 d.1 (parts.within-none c.in-Some.den _ (c.in_default-sum_in_parts.ensures {u = tt}))

pub returns-then-abs_diff-den-clause-refused : goal.returns-then-abs_diff-den-clause-refused
returns-then-abs_diff-den-clause-refused c =
    let is = summed c.args.row.now _ _ (c.in-Some.ensures {u = tt}) (c.in-Some-sum_in_parts.ensures {u = tt}) in
    rw c.in-Scaled.is (refused_diff c.args.state c.args.choice c.args.row.now c.in-Some.den c.in-Some-sum_in_parts.parts is (omega (arith, c.abs_diff.ensures, c.if-abs_diff-den.true)))

pub scale-requires-clause-positive : goal.scale-requires-clause-positive
scale-requires-clause-positive c =
    let is = summed c.args.row.now _ _ (c.in-Some.ensures {u = tt}) (c.in-Some-sum_in_parts.ensures {u = tt}) in
    some_parts c.args.state c.args.choice c.args.row.now c.in-Some.den c.in-Some-sum_in_parts.parts is (omega (arith, c.abs_diff.ensures, c.if-abs_diff-den.false))

pub returns-then-parts-den-clause-closed : goal.returns-then-parts-den-clause-closed
returns-then-parts-den-clause-closed c =
    let is = summed c.args.row.now _ _ (c.in-Some.ensures {u = tt}) (c.in-Some-sum_in_parts.ensures {u = tt}) in
    rw c.in-Exact.is (closes_exact c.args.state c.args.choice c.args.row.now c.in-Some.den c.in-Some-sum_in_parts.parts is c.if-parts-den.true)

pub returns-else-parts-den-clause-refused : goal.returns-else-parts-den-clause-refused
returns-else-parts-den-clause-refused c =
    let is = summed c.args.row.now _ _ (c.in-Some.ensures {u = tt}) (c.in-Some-sum_in_parts.ensures {u = tt}) in
    rw c.in-Exact.is (refused_exact c.args.state c.args.choice c.args.row.now c.in-Some.den c.in-Some-sum_in_parts.parts is c.if-parts-den.false)

pub returns-then-is_some-clause-closed : goal.returns-then-is_some-clause-closed
returns-then-is_some-clause-closed c =
    let is = summed c.args.row.now _ _ (c.in-Some.ensures {u = tt}) (c.in-Some-sum_in_parts.ensures {u = tt}) in
    let e = c.scale.ensures.scaled c.if-scale.true in
    rw c.in-Scaled.is (closes_scaled c.args.state c.args.choice c.args.row.now c.in-Some.den c.in-Some-sum_in_parts.parts is (row_of c.scale.new.row)
    (omega (arith, c.abs_diff.ensures, c.if-abs_diff-den.false)) e
    (some_within (row_den (row_of c.scale.new.row)) c.common_den-then-scale.result c.common_den-then-scale.ensures (sym c.is_some.ensures ∙ c.if-is_some.true)))

pub returns-else-scale-clause-refused : goal.returns-else-scale-clause-refused
returns-else-scale-clause-refused c =
    let is = summed c.args.row.now _ _ (c.in-Some.ensures {u = tt}) (c.in-Some-sum_in_parts.ensures {u = tt}) in
    rw c.in-Scaled.is (refused_wide c.args.state c.args.choice c.args.row.now c.in-Some.den c.in-Some-sum_in_parts.parts is (omega (arith, c.abs_diff.ensures, c.if-abs_diff-den.false))
    (elim c.else-scale.branch [
      | else-scale-via-then-scale+else-is_some w ↦
          (let e = c.scale.ensures.scaled w.if-scale.true in
          let h = none_within (row_den (row_of c.scale.new.row)) w.common_den-then-scale.result w.common_den-then-scale.ensures (sym w.is_some.ensures ∙ w.if-is_some.false) in
          let k = ap row_den e in omega (arith, h, k))
      | else-scale-via-else-scale w ↦ c.scale.ensures.wide w.if-scale.false
    ]))
