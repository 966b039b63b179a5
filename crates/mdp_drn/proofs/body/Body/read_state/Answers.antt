use Rattle.std.proofs.{Common.{◌≡◌, false, sym, ◌∙◌, ap, arith}, lemmas.List.Elements.{All-drop}, lemmas.Grind.{common_steps}}
use Rattle.std.specs.List.{prefix_len}
use Rattle.mdp_drn.specs.{Lines.{is_blank, is_line_feed, without_blanks_before}, Body.{bracket_at, state_read}}
use Rattle.mdp_drn.proofs.LinesRead.LabelNames.{label_names, behind_plain}
use Rattle.mdp_drn.proofs.body.Body.read_state.Goals as goal

pub returns-clause-names : goal.returns-clause-names
returns-clause-names c =
    let rest = c.args.rest.now in
    let one = All-drop (λ b. is_line_feed b ≡ false) (prefix_len is_blank rest) rest c.requires.plain in
    label_names c.in_ok-inside.behind.now _
    (behind_plain (without_blanks_before rest) one c.in_ok-inside.inside.now c.in_ok-inside.behind.now
    (ap bracket_at (sym c.trim_start-behind.ensures) ∙ sym c.in_ok-inside.ensures)) c.in_ok-labels.ensures.labels

pub returns-clause-read : goal.returns-clause-read
unfolding state_read
returns-clause-read c = grind (arith, common_steps)

pub returns-then-begins_other_type-clause-read : goal.returns-then-begins_other_type-clause-read
unfolding state_read
returns-then-begins_other_type-clause-read c = grind (arith, common_steps)

pub returns-then-opened-self-clause-read : goal.returns-then-opened-self-clause-read
unfolding state_read
returns-then-opened-self-clause-read c = grind (arith, common_steps)

pub returns-then-number_of-from-clause-read : goal.returns-then-number_of-from-clause-read
unfolding state_read
returns-then-number_of-from-clause-read c = grind (arith, common_steps)

pub returns-then-not-is_rest_of_state-clause-read : goal.returns-then-not-is_rest_of_state-clause-read
unfolding state_read
returns-then-not-is_rest_of_state-clause-read c = grind (arith, common_steps)

pub returns-in_err-inside-clause-read : goal.returns-in_err-inside-clause-read
unfolding state_read
returns-in_err-inside-clause-read c = grind (arith, common_steps)
