use Rattle.std.proofs.Common.{◌<◌, sym, ◌∙◌, subst, arith, []}
use Rattle.std.specs.List.{All}
use Rattle.mdp_quot.proofs.Selected.{chosen-in, length-chosen_rows, chosen_rows-at}
use Rattle.mdp_quot.proofs.exit_rows.ExitRowsRowsOf.row.Goals as goal

pub node_row-requires-clause-node : goal.node_row-requires-clause-node
node_row-requires-clause-node c =
    let e = length-chosen_rows c.args.self.now.quotient.now c.known.ensures c.args.self.now.exits.now c.args.self.now.chosen in
    omega (arith, c.requires, e)

pub bounds-self-s : goal.bounds-self-s
bounds-self-s c =
    let e = length-chosen_rows c.args.self.now.quotient.now c.known.ensures c.args.self.now.exits.now c.args.self.now.chosen in
    omega (arith, c.requires, e, c.args.self.now.chosen.count)

pub node_row-requires-clause-row : goal.node_row-requires-clause-row
node_row-requires-clause-row c =
    let e = length-chosen_rows c.args.self.now.quotient.now c.known.ensures c.args.self.now.exits.now c.args.self.now.chosen in
    chosen-in c.args.self.now.quotient.now c.known.ensures c.args.self.now.exits.now c.args.self.now.chosen c.args.s (omega (arith, c.requires, e))

pub returns-clause-row : goal.returns-clause-row
returns-clause-row c =
    let e = length-chosen_rows c.args.self.now.quotient.now c.known.ensures c.args.self.now.exits.now c.args.self.now.chosen in
    c.node_row.ensures.row ∙ sym (chosen_rows-at c.args.self.now.quotient.now c.known.ensures c.args.self.now.exits.now c.args.self.now.chosen c.args.s [] (omega (arith, c.requires, e)))

pub returns-clause-in_range : goal.returns-clause-in_range
returns-clause-in_range c =
    let e = length-chosen_rows c.args.self.now.quotient.now c.known.ensures c.args.self.now.exits.now c.args.self.now.chosen in
    subst (λ n. All (λ t. t < n) c.node_row.result.targets.now) (sym e) c.node_row.ensures.in_range
