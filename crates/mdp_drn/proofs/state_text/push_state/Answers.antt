use Rattle.mdp_drn.proofs.TextWritten.Appending.{front-more}
use Rattle.mdp_drn.proofs.state_text.push_state.Goals as goal

pub returns-clause-front : goal.returns-clause-front
returns-clause-front c = front-more _ _ _ c.push_state_line.ensures.front c.push_choices.ensures.front
