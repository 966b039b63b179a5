use Rattle.mdp_drn.proofs.TextWritten.Appending.{front-more}
use Rattle.mdp_drn.proofs.choice_text.push_reward.Goals as goal

pub returns-clause-front : goal.returns-clause-front
returns-clause-front c = front-more _ _ _ c.push_separator.ensures.front c.push_fraction.ensures.front
