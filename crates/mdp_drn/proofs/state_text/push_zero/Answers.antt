use Rattle.mdp_drn.proofs.TextWritten.Appending.{front-more}
use Rattle.mdp_drn.proofs.state_text.push_zero.Goals as goal

pub returns-clause-front : goal.returns-clause-front
returns-clause-front c = front-more _ _ _ c.push_separator.ensures.front c.push_bytes.ensures.front
