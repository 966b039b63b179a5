use Rattle.std.proofs.Common.{◌∷◌, [], codes, decimal}
use Rattle.mdp_drn.proofs.TextWritten.Appending.{three-pieces}
use Rattle.mdp_wide.specs.Term.{shown}
use Rattle.mdp_job.specs.{Text.{part_word, kind_word, place_text, policy_words, too_wide_text}, WideLines.{wide_place, policy_line}}
use Rattle.mdp_job.proofs.WideText.{two_lines}
use Rattle.mdp_text.proofs.Fronts.{keeps_more}
use Rattle.mdp_job.proofs.refusal.push_too_wide.Goals as goal

pub returns-clause-text : goal.returns-clause-text
returns-clause-text c =
    let wide = c.args.wide.now in
    three-pieces c.push_policy_line.result c.args.out.now.items c.push_line.new.out.items c.push_wide_place.new.out.items c.push_policy_line.new.out.items
    (codes "too-wide part ") (wide_place (shown wide wide.round)) (policy_line wide.policy.items) (too_wide_text (shown wide wide.round))
    c.in_ok-push_line.ensures.text c.in_ok-push_wide_place.ensures.text (rw c.deref.ensures.value at c.push_policy_line.ensures.text)
    (two_lines (codes "too-wide part ") (part_word wide.part) (codes " round ") (decimal wide.round) (codes " kind ") (kind_word wide.kind) (place_text wide.state wide.choice) (codes "policy")
    (policy_words wide.policy.items) (10 ∷ []))

pub returns-in_err-push_wide_place-clause-front : goal.returns-in_err-push_wide_place-clause-front
returns-in_err-push_wide_place-clause-front c = keeps_more _ _ _ c.push_line.ensures.front c.push_wide_place.ensures.front

pub returns-clause-front : goal.returns-clause-front
returns-clause-front c = keeps_more _ _ _ (keeps_more _ _ _ c.push_line.ensures.front c.push_wide_place.ensures.front) c.push_policy_line.ensures.front
