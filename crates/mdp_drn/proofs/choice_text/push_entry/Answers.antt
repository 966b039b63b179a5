use Rattle.std.proofs.Common.{◌∷◌, ◌++◌, [], decimal, codes, refl}
use Rattle.mdp_num.specs.Value.{spelling}
use Rattle.mdp_drn.proofs.TextWritten.Appending.{three-pieces, front-more}
use Rattle.mdp_drn.proofs.choice_text.push_entry.Goals as goal

pub returns-clause-text : goal.returns-clause-text
returns-clause-text c =
    three-pieces c.push_bytes.result c.args.out.now.items c.push_between.new.out.items c.push_fraction.new.out.items c.push_bytes.new.out.items
    (codes "\t\t" ++ decimal c.args.target ++ codes " : ") (spelling c.args.prob.now) (10 ∷ []) _ c.in_ok-push_between.ensures.text c.in_ok-push_fraction.ensures.text c.push_bytes.ensures.text
    (refl)

pub returns-in_err-push_fraction-clause-front : goal.returns-in_err-push_fraction-clause-front
returns-in_err-push_fraction-clause-front c = front-more _ _ _ c.push_between.ensures.front c.push_fraction.ensures.front

pub returns-clause-front : goal.returns-clause-front
returns-clause-front c = front-more _ _ _ (front-more _ _ _ c.push_between.ensures.front c.push_fraction.ensures.front) c.push_bytes.ensures.front
