use Rattle.std.proofs.{Common.{◌≡◌, ℕ, List, ◌++◌, length, sum_by, decimal, codes, append_assoc, refl, ap, ◌∙◌}, lemmas.Result.{on_ok_weaker}}
use Rattle.mdp_spec.specs.Mdp.{Mdp, states_of}
use Rattle.mdp_drn.specs.{Writing.{line, header_text}, Pieces.{first_lines, count_lines}}
use Rattle.mdp_drn.proofs.TextWritten.Appending.{front-more}
use Rattle.mdp_drn.proofs.header_text.push_header.Goals as goal

grouped : (a b c d e f : List ℕ) → a ++ (b ++ c ++ (d ++ e) ++ f) ≡ a ++ b ++ c ++ d ++ e ++ f
grouped a b c d e f = simp append_assoc refl

header-parts : (m : Mdp) → first_lines m ++ count_lines m ≡ header_text m
header-parts m =
    grouped (first_lines m) (line (codes "@nr_states")) (line (decimal (states_of m))) (line (codes "@nr_choices")) (line (decimal (sum_by (λ x. length x.choices) m.states))) (line (codes "@model"))

pub returns-clause-text : goal.returns-clause-text
returns-clause-text c =
    let m = c.args.model.now in
    on_ok_weaker c.push_counts.result
    (λ (e : c.push_counts.new.out.items ≡ c.push_first_lines.new.out.items ++ count_lines m).
    e ∙ ap (λ (xs : List ℕ). xs ++ count_lines m) c.in_ok-push_first_lines.ensures.text
    ∙ append_assoc c.args.out.now.items (first_lines m) (count_lines m) ∙ ap (λ (xs : List ℕ). c.args.out.now.items ++ xs) (header-parts m))
    c.push_counts.ensures.text

pub returns-clause-front : goal.returns-clause-front
returns-clause-front c = front-more _ _ _ c.push_first_lines.ensures.front c.push_counts.ensures.front
