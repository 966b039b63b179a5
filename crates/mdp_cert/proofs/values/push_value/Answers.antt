use Rattle.mdp_text.proofs.Fronts.{keeps_more}
use Rattle.mdp_cert.proofs.Written.{two-parts}
use Rattle.mdp_cert.proofs.values.push_value.Goals as goal

pub returns-clause-text : goal.returns-clause-text
returns-clause-text g c = two-parts _ _ _ _ _ _ c.in_ok-push_parts.ensures.text c.push_word.ensures.text

pub returns-clause-front : goal.returns-clause-front
returns-clause-front g c = keeps_more _ _ _ c.in_ok-push_parts.ensures.front c.push_word.ensures.front
