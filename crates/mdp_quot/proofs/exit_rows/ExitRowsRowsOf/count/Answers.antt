use Rattle.std.proofs.Common.{sym, ◌∙◌}
use Rattle.mdp_quot.proofs.Selected.{length-chosen_rows}
use Rattle.mdp_quot.proofs.exit_rows.ExitRowsRowsOf.count.Goals as goal

pub returns : goal.returns
returns c = c.nodes.ensures ∙ sym (length-chosen_rows c.args.self.now.quotient.now c.known.ensures c.args.self.now.exits.now c.args.self.now.chosen)
