use Rattle.mdp_quot.proofs.Selected.{chosen_are_rows}
use Rattle.mdp_quot.proofs.exit_rows.ExitRowsRowsOf.known.Goals as goal

pub returns : goal.returns
returns c = chosen_are_rows c.args.self.now.quotient.now c.known.ensures c.args.self.now.exits.now c.args.self.now.chosen
