use Rattle.std.proofs.{Common.{◌≡◌, List, ℕ, Result, false, drop, sym, ap, ◌∙◌, subst}, lemmas.List.{take_rest}, lemmas.List.Elements.{All-drop}}
use Rattle.std.specs.List.{prefix_len}
use Rattle.mdp_drn.specs.{Lines.{is_blank, is_line_feed, without_blanks_before}, Outcome.{Refusal}, Body.{Body, state_line, action_line}, BodyView.{view}}
use Rattle.mdp_drn.specs.Feeding.{Answers}
use Rattle.mdp_drn.proofs.LinesRead.LineKinds.{line-of_state, line-of_action, line-of_entry}
use Rattle.mdp_drn.proofs.body.Body.take_line.Goals as goal

pub take_state-requires-clause-plain : goal.take_state-requires-clause-plain
take_state-requires-clause-plain c =
    let behind = drop 5 c.args.text.now in
    rw (c.trim_start.ensures, take_rest c.args.text.now 5) (All-drop (λ b. is_line_feed b ≡ false) (prefix_len is_blank behind) behind (All-drop (λ b. is_line_feed b ≡ false) 5 c.args.text.now c.requires.plain))

pub returns-then-is_state_line-clause-taken : goal.returns-then-is_state_line-clause-taken
returns-then-is_state_line-clause-taken c =
    let body = view c.args.self.now in
    let after = view c.take_state.new.self in
    subst (λ (said : Result Body Refusal). Answers c.take_state.result after said)
    (sym (line-of_state body c.args.line c.args.text.now (sym c.is_state_line.ensures ∙ c.if-is_state_line.true)))
    (subst (λ (behind : List ℕ). Answers c.take_state.result after (state_line body c.args.line behind)) (c.trim_start.ensures ∙ ap without_blanks_before (take_rest c.args.text.now 5)) c.take_state.ensures.taken)

pub returns-then-is_action_line-clause-taken : goal.returns-then-is_action_line-clause-taken
returns-then-is_action_line-clause-taken c =
    subst (λ (said : Result Body Refusal). Answers c.take_action.result (view c.take_action.new.self) said)
    (sym (line-of_action (view c.args.self.now) c.args.line c.args.text.now (sym c.is_state_line.ensures ∙ c.if-is_state_line.false) (sym c.is_action_line.ensures ∙ c.if-is_action_line.true)))
    (subst (λ (rest : List ℕ). Answers c.take_action.result (view c.take_action.new.self) (action_line (view c.args.self.now) c.args.line rest)) (take_rest c.args.text.now 6) c.take_action.ensures.taken)

pub returns-else-is_action_line-clause-taken : goal.returns-else-is_action_line-clause-taken
returns-else-is_action_line-clause-taken c =
    subst (λ (said : Result Body Refusal). Answers c.take_entry.result (view c.take_entry.new.self) said)
    (sym (line-of_entry (view c.args.self.now) c.args.line c.args.text.now (sym c.is_state_line.ensures ∙ c.if-is_state_line.false) (sym c.is_action_line.ensures ∙ c.if-is_action_line.false)))
    c.take_entry.ensures.taken
