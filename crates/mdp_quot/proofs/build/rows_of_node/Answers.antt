use Rattle.std.proofs.{lemmas.List.{nil_from_length}, Common.{◌∷◌, ◌++◌, [], List, map, sym, ap, ◌∙◌, rules}}
use Rattle.mdp_spec.specs.Mdp.{Entry}
use Rattle.mdp_rows.specs.declared.row.Row.{Row}
use Rattle.mdp_quot.specs.{Quotient.{rows_by}, QuotientView.{row_in}}
use Rattle.mdp_quot.proofs.build.rows_of_node.Goals as goal

pub returns-in_ok-push-clause-rows : goal.returns-in_ok-push-clause-rows
returns-in_ok-push-clause-rows c =
    let none = nil_from_length c.args.exits.now (search rules) in
    ap (map row_in) (c.in_ok-push.ensures.items ∙ ap (λ (rs : List Row). rs ++ c.in_ok-loop_row.field-0 ∷ []) c.new-rows.ensures.items)
    ∙ ap (λ (row : List Entry). row ∷ []) c.in_ok-loop_row.ensures ∙ ap (rows_by c.args.model.now c.args.nodes.now c.args.node) (sym none)
