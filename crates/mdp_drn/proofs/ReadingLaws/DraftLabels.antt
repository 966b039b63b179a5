-- What the calls do to the list of labels of a draft: a label is put behind those that are known, and nothing else changes it.
use Rattle.std.proofs.Common.{◌≡◌, ℕ, ◌+◌, ◌^◌, cond, eqb, ltb, leb, ◌||◌, List, [], ◌∷◌, ◌++◌, length, refl, sym, ap, subst, ◌∙◌, Option, Some, None, Result, Ok, Err}
use Rattle.std.specs.{List.{position_or_len}, Str.{bytes_eq}}
use Rattle.mdp_math.specs.Rational.{ℚ}
use Rattle.mdp_spec.specs.Mdp.{Entry, State}
use Rattle.mdp_rows.specs.Draft.{Draft, OpenState, OpenChoice, ◌>>=◌, choice_closed, choice_closed_in, with_choice_closed, closed_row, state_closed}
use Rattle.mdp_rows.specs.Draft.{state_closed_in, all_closed, state_opened, new_state, choice_opened, choice_opened_in, summed_rewards, closed_choices}
use Rattle.mdp_rows.specs.Draft.{after_label, label_in, with_name, with_place, after_entry, entry_in, with_choice_entry, has_target, with_entry}
use Rattle.mdp_rows.specs.{declared.error.RowsError.{RowsError}, declared.error.RowsError.TheVariants.{NoChoice, TooMany, Target, Twice, Count}}
use Rattle.mdp_drn.specs.{Body.{with_labels}, Laws.{seen}}
use Rattle.mdp_drn.proofs.LinesRead.DraftCalls.{HasState, ok-is, passed, bound, label-given, state-opened}

abbrev given : Draft → Result Draft RowsError
given d = Ok d

abbrev SameLabels : Draft → Draft → Type 0
SameLabels d e = e.labels ≡ d.labels

same-where : (d f e : Draft) → SameLabels d f → given f ≡ Ok e → SameLabels d e
same-where d f e h k = subst (SameLabels d) (ok-is f e k) h

choice_closed-labels : (d e : Draft) → choice_closed d ≡ Ok e → SameLabels d e
choice_closed-labels d e h = by d.state h
  where
    of-choice : (o : OpenState) (c : Option OpenChoice) → with_choice_closed d o c ≡ Ok e → SameLabels d e
    of-choice o None h = same-where d d e refl h
    of-choice o (Some c) h =
        let r = bound (closed_row d.rule (length d.closed) (length o.choices) c.row)
        (λ row. Ok (record d { state = Some (record o { choices = o.choices ++ record { row = row; rewards = c.rewards } ∷ []; choice = None }) })) e h in
        same-where d (record d { state = Some (record o { choices = o.choices ++ record { row = r.0; rewards = c.rewards } ∷ []; choice = None }) }) e refl r.2

    by : (s : Option OpenState) → choice_closed_in d s ≡ Ok e → SameLabels d e
    by None h = same-where d d e refl h
    by (Some o) h = of-choice o o.choice h

state_closed-labels : (d e : Draft) → state_closed d ≡ Ok e → SameLabels d e
state_closed-labels d e h = by d.state h
  where
    by : (s : Option OpenState) → state_closed_in d s ≡ Ok e → SameLabels d e
    by None h = same-where d d e refl h
    by (Some o) h =
        let x : State = record { labels = o.labels; choices = o.choices } in
        let p = passed (eqb (length o.choices) 0) (NoChoice (length d.closed)) (Ok (record d { closed = d.closed ++ x ∷ []; state = None })) e h in
        same-where d (record d { closed = d.closed ++ x ∷ []; state = None }) e refl p.1

pub all_closed-labels : (d e : Draft) → all_closed d ≡ Ok e → SameLabels d e
all_closed-labels d e h =
    let b = bound (choice_closed d) state_closed e h in state_closed-labels b.0 e b.2 ∙ choice_closed-labels d b.0 b.1

pub state_opened-labels : (d e : Draft) (rewards : List ℚ) → state_opened d rewards ≡ Ok e → SameLabels d e
state_opened-labels d e rewards h =
    let p = passed (eqb (length d.closed) d.announced) Count (Ok (record d { state = Some (new_state rewards) })) e h in
    same-where d (record d { state = Some (new_state rewards) }) e refl p.1

choice_opened-labels : (d e : Draft) (rewards : List ℚ) → choice_opened d rewards ≡ Ok e → SameLabels d e
choice_opened-labels d e rewards h = by d.state h
  where
    by : (s : Option OpenState) → choice_opened_in d rewards s ≡ Ok e → SameLabels d e
    by None h = same-where d d e refl h
    by (Some o) h =
        let p = passed (ltb (2 ^ 22) (closed_choices d + length o.choices + 1)) TooMany
        (summed_rewards o.rewards rewards >>= λ sums. Ok (record d { state = Some (record o { choice = Some (record { rewards = sums; row = [] }) }) })) e h in
        let b = bound (summed_rewards o.rewards rewards) (λ sums. Ok (record d { state = Some (record o { choice = Some (record { rewards = sums; row = [] }) }) })) e p.1 in
        same-where d (record d { state = Some (record o { choice = Some (record { rewards = b.0; row = [] }) }) }) e refl b.2

pub action-labels : (d closed e : Draft) (rewards : List ℚ) → choice_closed d ≡ Ok closed → choice_opened closed rewards ≡ Ok e → SameLabels d e
action-labels d closed e rewards h k = choice_opened-labels closed e rewards k ∙ choice_closed-labels d closed h

pub entry-labels : (d e : Draft) (target : ℕ) (value : ℚ) → after_entry d target value ≡ Ok e → SameLabels d e
entry-labels d e target value h = by d.state h
  where
    of-choice : (o : OpenState) (c : Option OpenChoice) → with_choice_entry d target value o c ≡ Ok e → SameLabels d e
    of-choice o None h = same-where d d e refl h
    of-choice o (Some c) h =
        let row : List Entry = with_entry (record { target = target; prob = value }) c.row in
        let d2 : Draft = record d { entries = d.entries + 1; state = Some (record o { choice = Some (record c { row = row }) }) } in
        let p = passed (leb d.announced target) Target (cond (has_target c.row target) (Err Twice) (cond (leb (2 ^ 24) d.entries) (Err TooMany) (Ok d2))) e h in
        let q = passed (has_target c.row target) Twice (cond (leb (2 ^ 24) d.entries) (Err TooMany) (Ok d2)) e p.1 in
        let r = passed (leb (2 ^ 24) d.entries) TooMany (Ok d2) e q.1 in
        same-where d d2 e refl r.1

    by : (s : Option OpenState) → entry_in d target value s ≡ Ok e → SameLabels d e
    by None h = same-where d d e refl h
    by (Some o) h = of-choice o o.choice h

-- of a state that is open
label-put : (d e : Draft) (name : List ℕ) → HasState d → after_label d name ≡ Ok e → e.labels ≡ with_name d.labels name
label-put d e name s h = by s.0 (ap (label_in d name) (sym s.1) ∙ h)
  where
    by : (o : OpenState) → label_in d name (Some o) ≡ Ok e → e.labels ≡ with_name d.labels name
    by o h =
        let o2 : OpenState = record o { labels = with_place (position_or_len (bytes_eq name) d.labels) o.labels; label_calls = o.label_calls + 1 } in
        let d2 : Draft = record d { labels = with_name d.labels name; state = Some o2 } in
        let p = passed (leb 64 o.label_calls || ltb 1024 (length (with_name d.labels name))) TooMany (Ok d2) e h in
        subst (λ (x : Draft). x.labels ≡ with_name d.labels name) (ok-is d2 e p.1) refl

pub labels-put : (names : List (List ℕ)) (d e : Draft) → HasState d → with_labels names d ≡ Ok e → e.labels ≡ seen d.labels names
labels-put [] d e s h = same-where d d e refl h
labels-put (name ∷ names) d e s h =
    let b = bound (after_label d name) (with_labels names) e h in
    let g = label-given d b.0 name b.1 in
    labels-put names b.0 e (g.1 s) b.2 ∙ ap (λ (known : List (List ℕ)). seen known names) (label-put d b.0 name s b.1)

pub opened-state : (d e : Draft) (rewards : List ℚ) → state_opened d rewards ≡ Ok e → HasState e
opened-state d e rewards h = (state-opened d e rewards h).state
