use Rattle.std.proofs.Common.{[], ◌∷◌, codes, refl}
use Rattle.mdp_drn.specs.Writing.{names_text}
use Rattle.mdp_drn.proofs.TextWritten.Appending.{three-pieces, front-more}
use Rattle.mdp_drn.proofs.header_text.push_first_lines.Goals as goal

pub returns-clause-text : goal.returns-clause-text
returns-clause-text c =
    three-pieces c.push_bytes-2.result c.args.out.now.items c.push_bytes.new.out.items c.push_names.new.out.items c.push_bytes-2.new.out.items
    (codes "@type: MDP\n@parameters\n\n@reward_models\n") (names_text c.args.model.now.names) (10 ∷ []) _ c.in_ok-push_bytes.ensures.text c.in_ok-push_names.ensures.text c.push_bytes-2.ensures.text
    (refl)

pub returns-in_err-push_names-clause-front : goal.returns-in_err-push_names-clause-front
returns-in_err-push_names-clause-front c = front-more _ _ _ c.push_bytes.ensures.front c.push_names.ensures.front

pub returns-clause-front : goal.returns-clause-front
returns-clause-front c = front-more _ _ _ (front-more _ _ _ c.push_bytes.ensures.front c.push_names.ensures.front) c.push_bytes-2.ensures.front
