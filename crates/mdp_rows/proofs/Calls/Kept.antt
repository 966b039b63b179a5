-- What no call changes: how many states were announced, the rule, the names of rewards, and that nothing was refused.
use Rattle.std.proofs.Common.{◌≡◌, ℕ, ◌+◌, ◌^◌, ◌||◌, leb, ltb, eqb, List, [], ◌∷◌, ◌++◌, length, Option, Some, None, refl, ◌∙◌, subst}
use Rattle.std.specs.{Prelude.{Result, Ok, Err, if◌then◌else◌}, List.{position_or_len}, Str.{bytes_eq}}
use Rattle.mdp_math.specs.Rational.{ℚ}
use Rattle.mdp_rows.specs.Head.{IsSameHead}
use Rattle.mdp_rows.specs.Draft.{Draft, OpenState, OpenChoice, new_state, closed_row, closed_choices, with_choice_closed, choice_closed_in, choice_closed}
use Rattle.mdp_rows.specs.Draft.{state_closed_in, state_closed, all_closed, state_opened, after_state, summed_rewards, choice_opened_in, choice_opened, after_choice}
use Rattle.mdp_rows.specs.Draft.{has_target, with_entry, with_choice_entry, entry_in, after_entry, with_name, with_place, label_in, after_label, ◌>>=◌}
use Rattle.mdp_rows.specs.{declared.error.RowsError.{RowsError}, declared.error.RowsError.TheVariants.{NoChoice, Count, TooMany, Target, Twice}}
use Rattle.mdp_rows.proofs.Calls.Steps.{done, ok_same, then_ok, else_ok}

pub record IsKept (d n : Draft) : Type 0 where
  pub head : IsSameHead d n
  pub refused : n.refused ≡ d.refused

same_head : (d : Draft) → IsSameHead d d
same_head d = record { announced = refl; rule = refl; names = refl }

pub both_same : (d m n : Draft) → IsSameHead d m → IsSameHead m n → IsSameHead d n
both_same d m n p q = record { announced = q.announced ∙ p.announced; rule = q.rule ∙ p.rule; names = q.names ∙ p.names }

same : (d : Draft) → IsKept d d
same d = record { head = same_head d; refused = refl }

both_kept : (d m n : Draft) → IsKept d m → IsKept m n → IsKept d n
both_kept d m n p q = record { head = both_same d m n p.head q.head; refused = q.refused ∙ p.refused }

-- a draft that a step makes, of others of its parts
by_step : (d v n : Draft) → IsKept d v → done v ≡ Ok n → IsKept d n
by_step d v n k e = subst (IsKept d) (ok_same v n e) k

close_choice : (d n : Draft) (o : OpenState) (c : Option OpenChoice) → with_choice_closed d o c ≡ Ok n → IsKept d n
close_choice d n o None e = by_step d d n (same d) e
close_choice d n o (Some c) e =
    let f = then_ok (closed_row d.rule (length d.closed) (length o.choices) c.row)
    (λ row. Ok (record d { state = Some (record o { choices = o.choices ++ record { row = row; rewards = c.rewards } ∷ []; choice = None }) })) n e in
    by_step d (record d { state = Some (record o { choices = o.choices ++ record { row = f.0; rewards = c.rewards } ∷ []; choice = None }) }) n
    (record { head = record { announced = refl; rule = refl; names = refl }; refused = refl }) f.2

close_choice_in : (d n : Draft) (st : Option OpenState) → choice_closed_in d st ≡ Ok n → IsKept d n
close_choice_in d n None e = by_step d d n (same d) e
close_choice_in d n (Some o) e = close_choice d n o o.choice e

pub choice_closed-kept : (d n : Draft) → choice_closed d ≡ Ok n → IsKept d n
choice_closed-kept d n e = close_choice_in d n d.state e

close_state_in : (d n : Draft) (st : Option OpenState) → state_closed_in d st ≡ Ok n → IsKept d n
close_state_in d n None e = by_step d d n (same d) e
close_state_in d n (Some o) e =
    let v : Draft = record d { closed = d.closed ++ record { labels = o.labels; choices = o.choices } ∷ []; state = None } in
    by_step d v n (record { head = record { announced = refl; rule = refl; names = refl }; refused = refl }) (else_ok (eqb (length o.choices) 0) (NoChoice (length d.closed)) (done v) n e).1

pub state_closed-kept : (d n : Draft) → state_closed d ≡ Ok n → IsKept d n
state_closed-kept d n e = close_state_in d n d.state e

pub all_closed-kept : (d n : Draft) → all_closed d ≡ Ok n → IsKept d n
all_closed-kept d n e = let f = then_ok (choice_closed d) state_closed n e in both_kept d f.0 n (choice_closed-kept d f.0 f.1) (state_closed-kept f.0 n f.2)

pub state_opened-kept : (d n : Draft) (rewards : List ℚ) → state_opened d rewards ≡ Ok n → IsKept d n
state_opened-kept d n rewards e =
    let v : Draft = record d { state = Some (new_state rewards) } in
    by_step d v n (record { head = record { announced = refl; rule = refl; names = refl }; refused = refl }) (else_ok (eqb (length d.closed) d.announced) Count (done v) n e).1

pub after_state-kept : (d n : Draft) (rewards : List ℚ) → after_state d rewards ≡ Ok n → IsKept d n
after_state-kept d n rewards e =
    let f = then_ok (all_closed d) (λ closed. state_opened closed rewards) n e in both_kept d f.0 n (all_closed-kept d f.0 f.1) (state_opened-kept f.0 n rewards f.2)

open_choice_in : (d n : Draft) (rewards : List ℚ) (st : Option OpenState) → choice_opened_in d rewards st ≡ Ok n → IsKept d n
open_choice_in d n rewards None e = by_step d d n (same d) e
open_choice_in d n rewards (Some o) e =
    let f = else_ok (ltb (2 ^ 22) (closed_choices d + length o.choices + 1)) TooMany
    (summed_rewards o.rewards rewards >>= λ sums. Ok (record d { state = Some (record o { choice = Some (record { rewards = sums; row = [] }) }) })) n e in
    let g = then_ok (summed_rewards o.rewards rewards) (λ sums. Ok (record d { state = Some (record o { choice = Some (record { rewards = sums; row = [] }) }) })) n f.1 in
    by_step d (record d { state = Some (record o { choice = Some (record { rewards = g.0; row = [] }) }) }) n
    (record { head = record { announced = refl; rule = refl; names = refl }; refused = refl }) g.2

pub choice_opened-kept : (d n : Draft) (rewards : List ℚ) → choice_opened d rewards ≡ Ok n → IsKept d n
choice_opened-kept d n rewards e = open_choice_in d n rewards d.state e

pub after_choice-kept : (d n : Draft) (rewards : List ℚ) → after_choice d rewards ≡ Ok n → IsKept d n
after_choice-kept d n rewards e =
    let f = then_ok (choice_closed d) (λ closed. choice_opened closed rewards) n e in both_kept d f.0 n (choice_closed-kept d f.0 f.1) (choice_opened-kept f.0 n rewards f.2)

entry_choice : (d n : Draft) (target : ℕ) (value : ℚ) (o : OpenState) (c : Option OpenChoice) → with_choice_entry d target value o c ≡ Ok n → IsKept d n
entry_choice d n target value o None e = by_step d d n (same d) e
entry_choice d n target value o (Some c) e =
    let v : Draft = record d { entries = d.entries + 1; state = Some (record o { choice = Some (record c { row = with_entry (record { target = target; prob = value }) c.row }) }) } in
    let r3 : Result Draft RowsError = if leb (2 ^ 24) d.entries then Err TooMany else Ok v in
    let r2 : Result Draft RowsError = if has_target c.row target then Err Twice else r3 in
    by_step d v n (record { head = record { announced = refl; rule = refl; names = refl }; refused = refl })
    (else_ok (leb (2 ^ 24) d.entries) TooMany (done v) n (else_ok (has_target c.row target) Twice r3 n (else_ok (leb d.announced target) Target r2 n e).1).1).1

entry_state : (d n : Draft) (target : ℕ) (value : ℚ) (st : Option OpenState) → entry_in d target value st ≡ Ok n → IsKept d n
entry_state d n target value None e = by_step d d n (same d) e
entry_state d n target value (Some o) e = entry_choice d n target value o o.choice e

pub after_entry-kept : (d n : Draft) (target : ℕ) (value : ℚ) → after_entry d target value ≡ Ok n → IsKept d n
after_entry-kept d n target value e = entry_state d n target value d.state e

label_state : (d n : Draft) (name : List ℕ) (st : Option OpenState) → label_in d name st ≡ Ok n → IsKept d n
label_state d n name None e = by_step d d n (same d) e
label_state d n name (Some o) e =
    let v : Draft = record d {
      labels = with_name d.labels name;
      state =
          Some (record o { labels = with_place (position_or_len (bytes_eq name) d.labels) o.labels; label_calls = o.label_calls + 1 });
    } in
    by_step d v n (record { head = record { announced = refl; rule = refl; names = refl }; refused = refl })
    (else_ok (leb 64 o.label_calls || ltb 1024 (length (with_name d.labels name))) TooMany (done v) n e).1

pub after_label-kept : (d n : Draft) (name : List ℕ) → after_label d name ≡ Ok n → IsKept d n
after_label-kept d n name e = label_state d n name d.state e
