use Rattle.mdp_quot.proofs.Selected.{every_selection_leaves}
use Rattle.mdp_quot.proofs.laws.selection_law.Goals as goal

pub returns : goal.returns
returns c = λ m parts q selected ok are is sel k h. every_selection_leaves m parts q selected ok are is sel k h
