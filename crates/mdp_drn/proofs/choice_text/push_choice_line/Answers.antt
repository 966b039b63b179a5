use Rattle.std.proofs.Common.{◌≡◌, ℕ, List, ◌++◌, get_or, map, decimal, codes, append_assoc, refl}
use Rattle.mdp_num.specs.Value.{spelling}
use Rattle.mdp_spec.specs.Mdp.{choices_at, no_choice}
use Rattle.mdp_drn.specs.Writing.{line, joined}
use Rattle.mdp_drn.proofs.TextWritten.Appending.{three-pieces, front-more}
use Rattle.mdp_drn.proofs.choice_text.push_choice_line.Goals as goal

one-line : (front inside : List ℕ) → ((front ++ codes " [") ++ inside) ++ codes "]\n" ≡ line (front ++ ((codes " [" ++ inside) ++ codes "]"))
one-line front inside = simp append_assoc refl

pub returns-clause-text : goal.returns-clause-text
returns-clause-text c =
    let front : List ℕ = codes "\taction " ++ decimal c.args.c in
    let inside : List ℕ = joined (codes ", ") (map spelling (get_or (choices_at c.args.model.now c.args.s) c.args.c no_choice).rewards) in
    three-pieces c.push_bytes.result c.args.out.now.items c.push_between.new.out.items c.push_rewards.new.out.items c.push_bytes.new.out.items
    (front ++ codes " [") inside (codes "]\n") _ c.in_ok-push_between.ensures.text c.in_ok-push_rewards.ensures.text c.push_bytes.ensures.text
    (one-line front inside)

pub returns-in_err-push_rewards-clause-front : goal.returns-in_err-push_rewards-clause-front
returns-in_err-push_rewards-clause-front c = front-more _ _ _ c.push_between.ensures.front c.push_rewards.ensures.front

pub returns-clause-front : goal.returns-clause-front
returns-clause-front c = front-more _ _ _ (front-more _ _ _ c.push_between.ensures.front c.push_rewards.ensures.front) c.push_bytes.ensures.front
