use Rattle.mdp_drn.proofs.TextWritten.Appending.{front-more}
use Rattle.mdp_drn.proofs.writing.push_model.Goals as goal

pub returns-clause-front : goal.returns-clause-front
returns-clause-front c = front-more _ _ _ c.push_header.ensures.front c.push_states.ensures.front
