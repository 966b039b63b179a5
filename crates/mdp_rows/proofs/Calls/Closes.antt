-- What is closed after a step that closes.
use Rattle.std.proofs.Common.{◌≡◌, ◌++◌, eqb, [], ◌∷◌, length, Option, Some, None, refl, sym, ap, subst, ◌∙◌}
use Rattle.std.specs.Prelude.{Ok}
use Rattle.mdp_rows.specs.Draft.{Draft, OpenState, OpenChoice, closed_row, choice_closed, choice_closed_in, with_choice_closed, state_closed, state_closed_in, all_closed, IsChoiceClosed}
use Rattle.mdp_rows.specs.declared.error.RowsError.TheVariants.{NoChoice}
use Rattle.mdp_rows.proofs.Calls.Steps.{done, ok_same, then_ok, else_ok}

in_state : (d n : Draft) (o : OpenState) (c : Option OpenChoice) → d.state ≡ Some o → o.choice ≡ c → with_choice_closed d o c ≡ Ok n → IsChoiceClosed n.state
in_state d n o None s e h = subst (λ (x : Draft). IsChoiceClosed x.state) (ok_same d n h) (rw s e)
in_state d n o (Some c) s e h =
    let f = then_ok (closed_row d.rule (length d.closed) (length o.choices) c.row)
    (λ row. Ok (record d { state = Some (record o { choices = o.choices ++ record { row = row; rewards = c.rewards } ∷ []; choice = None }) })) n h in
    subst (λ (x : Draft). IsChoiceClosed x.state) (ok_same (record d { state = Some (record o { choices = o.choices ++ record { row = f.0; rewards = c.rewards } ∷ []; choice = None }) }) n f.2) refl

in_draft : (d n : Draft) (s : Option OpenState) → d.state ≡ s → choice_closed_in d s ≡ Ok n → IsChoiceClosed n.state
in_draft d n None s h = subst (λ (x : Draft). IsChoiceClosed x.state) (ok_same d n h) (rw s tt)
in_draft d n (Some o) s h = in_state d n o o.choice s refl h

pub row_is_closed : (d n : Draft) → choice_closed d ≡ Ok n → IsChoiceClosed n.state
row_is_closed d n h = in_draft d n d.state refl h

state_by : (d n : Draft) (s : Option OpenState) → d.state ≡ s → state_closed_in d s ≡ Ok n → n.state ≡ None
state_by d n None s h = ap (λ (x : Draft). x.state) (sym (ok_same d n h)) ∙ s
state_by d n (Some o) s h =
    let v : Draft = record d { closed = d.closed ++ record { labels = o.labels; choices = o.choices } ∷ []; state = None } in
    ap (λ (x : Draft). x.state) (sym (ok_same v n (else_ok (eqb (length o.choices) 0) (NoChoice (length d.closed)) (done v) n h).1))

pub all_are_closed : (d n : Draft) → all_closed d ≡ Ok n → n.state ≡ None
all_are_closed d n e = let f = then_ok (choice_closed d) state_closed n e in state_by f.0 n f.0.state refl f.2
