use Rattle.mdp_quot.proofs.Selected.{are_selected}
use Rattle.mdp_quot.proofs.laws.exit_rows_law.Goals as goal

pub returns : goal.returns
returns c = λ m parts q is. are_selected m parts q is
