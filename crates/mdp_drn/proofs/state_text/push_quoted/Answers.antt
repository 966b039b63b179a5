use Rattle.std.proofs.Common.{codes, refl}
use Rattle.mdp_drn.proofs.TextWritten.Appending.{three-pieces, front-more}
use Rattle.mdp_drn.proofs.state_text.push_quoted.Goals as goal

pub returns-clause-text : goal.returns-clause-text
returns-clause-text c =
    three-pieces c.push_bytes-3.result c.args.out.now.items c.push_bytes.new.out.items c.push_bytes-2.new.out.items c.push_bytes-3.new.out.items
    (codes " \"") (c.args.name.now) (codes "\"") _ c.in_ok-push_bytes.ensures.text c.in_ok-push_bytes-2.ensures.text c.push_bytes-3.ensures.text
    (refl)

pub returns-in_err-push_bytes-2-clause-front : goal.returns-in_err-push_bytes-2-clause-front
returns-in_err-push_bytes-2-clause-front c = front-more _ _ _ c.push_bytes.ensures.front c.push_bytes-2.ensures.front

pub returns-clause-front : goal.returns-clause-front
returns-clause-front c = front-more _ _ _ (front-more _ _ _ c.push_bytes.ensures.front c.push_bytes-2.ensures.front) c.push_bytes-3.ensures.front
