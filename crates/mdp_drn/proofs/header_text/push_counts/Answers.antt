use Rattle.std.proofs.Common.{◌≡◌, ℕ, List, ◌++◌, decimal, codes, ap₂, ◌∙◌}
use Rattle.mdp_drn.specs.{Writing.{line}, Pieces.{count_text}}
use Rattle.mdp_drn.proofs.{TextWritten.TextsLeft.{counts_are}, TextWritten.Appending.{piece-last, front-more}}
use Rattle.mdp_drn.proofs.header_text.push_counts.Goals as goal

lines-are : (n k states choices : ℕ) → n ≡ states → k ≡ choices
    → ((codes "@nr_states\n" ++ decimal n) ++ codes "\n") ++ ((codes "@nr_choices\n" ++ decimal k) ++ codes "\n@model\n")
    ≡ (count_text (codes "@nr_states") states ++ count_text (codes "@nr_choices") choices) ++ line (codes "@model")
lines-are n k states choices p q =
    counts_are n k ∙ ap₂ (λ (x y : ℕ). (count_text (codes "@nr_states") x ++ count_text (codes "@nr_choices") y) ++ line (codes "@model")) p q

pub returns-clause-text : goal.returns-clause-text
returns-clause-text c =
    let old = c.args.out.now.items in
    let text0 : List ℕ = codes "@nr_states\n" ++ decimal c.states.result ++ codes "\n" in
    piece-last c.push_between-2.result old c.push_between.new.out.items c.push_between-2.new.out.items text0 (codes "@nr_choices\n" ++ decimal c.all_choices.result ++ codes "\n@model\n") _
    c.in_ok-push_between.ensures.text c.push_between-2.ensures.text
    (lines-are _ _ _ _ c.states.ensures c.all_choices.ensures)

pub returns-clause-front : goal.returns-clause-front
returns-clause-front c = front-more _ _ _ c.push_between.ensures.front c.push_between-2.ensures.front
