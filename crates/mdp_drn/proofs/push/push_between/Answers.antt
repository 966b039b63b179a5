use Rattle.std.proofs.Common.{decimal, refl}
use Rattle.mdp_drn.proofs.TextWritten.Appending.{three-pieces, front-more}
use Rattle.mdp_drn.proofs.push.push_between.Goals as goal

pub returns-clause-text : goal.returns-clause-text
returns-clause-text c =
    three-pieces c.push_bytes-2.result c.args.out.now.items c.push_bytes.new.out.items c.push_number.new.out.items c.push_bytes-2.new.out.items
    (c.args.before.now) (decimal c.args.number) (c.args.behind.now) _ c.in_ok-push_bytes.ensures.text c.in_ok-push_number.ensures.text c.push_bytes-2.ensures.text
    (refl)

pub returns-in_err-push_number-clause-front : goal.returns-in_err-push_number-clause-front
returns-in_err-push_number-clause-front c = front-more _ _ _ c.push_bytes.ensures.front c.push_number.ensures.front

pub returns-clause-front : goal.returns-clause-front
returns-clause-front c = front-more _ _ _ (front-more _ _ _ c.push_bytes.ensures.front c.push_number.ensures.front) c.push_bytes-2.ensures.front
