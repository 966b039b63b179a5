use Rattle.std.proofs.{Common.{◌≡◌, ◌∙◌, ◌<◌, sym, ap, subst, arith, length, get_or, List}, lemmas.List.{length-map}}
use Rattle.std.specs.List.{All}
use Rattle.mdp_spec.specs.{Mdp.{Entry}, Row.{IsRow}}
use Rattle.mdp_quot.specs.{Quotient.{Quotient, rows_at}, QuotientView.{quotient_in}, declared.node.Node.{Node}}
use Rattle.mdp_quot.proofs.QuotientFound.{targets_below, row_in-at, rows_laid}
use Rattle.mdp_quot.proofs.quotient.Quotient.node_row.Goals as goal

pub returns-clause-in_range : goal.returns-clause-in_range
returns-clause-in_range c =
    let v : quotient_in c.self.inside.node_of.now c.self.inside.nodes.now ≡ c.args.self.now = c.self.view_is in
    let many = length-map c.self.inside.nodes.now (λ (x : Node). x.exits.now) in
    let low = subst (λ (q : Quotient). c.args.q < length q.exits) (sym v) c.requires.node in
    let here : c.args.q < length c.self.inside.nodes.now = omega (arith, low, many) in
    let i_in = subst (λ (q : Quotient). c.args.i < length (rows_at q c.args.q)) (sym v) c.requires.row in
    let in_rows = rows_laid c.self.inside.node_of.now c.self.inside.nodes.now c.args.q c.index-self-q.result here c.index-self-q.is in
    let e = row_in-at c.self.inside.node_of.now c.self.inside.nodes.now c.args.q c.args.i c.index-self-q.result c.index-rows-i.result here c.index-self-q.is (omega (arith, i_in, in_rows))
    (c.index-rows-i.is ∙ ap (λ (x : Node). get_or x.rows.now c.args.i c.index-rows-i.result) (sym c.index-self-q.is))
    in
    subst (λ (q : Quotient). All (λ t. t < length q.exits) c.index-rows-i.result.targets.now) v
    (targets_below (length (quotient_in c.self.inside.node_of.now c.self.inside.nodes.now).exits) c.index-rows-i.result.targets.now c.index-rows-i.result.probs.now c.index-rows-i.result.same_length
    (IsRow.in_range (subst (λ (row : List Entry). IsRow (length (quotient_in c.self.inside.node_of.now c.self.inside.nodes.now).exits) row) (sym e) (c.self.invariant.are_rows c.args.q c.args.i low i_in))))
