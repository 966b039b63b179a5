use Rattle.mdp_text.proofs.Fronts.{keeps_more}
use Rattle.mdp_cert.proofs.Written.{two-parts}
use Rattle.mdp_cert.proofs.listed.push_line.Goals as goal

pub returns-clause-text : goal.returns-clause-text
returns-clause-text g c = two-parts _ _ _ _ _ _ c.in_ok-push_words.ensures.text c.push_parts.ensures.text

pub returns-clause-front : goal.returns-clause-front
returns-clause-front g c = keeps_more _ _ _ c.in_ok-push_words.ensures.front c.push_parts.ensures.front
