-- What stays open after a call.
use Rattle.std.proofs.Common.{◌≡◌, ℕ, ◌+◌, ◌^◌, ◌==◌, Bool, true, false, ◌||◌, IsTrue, List, [], ◌∷◌}
use Rattle.std.proofs.Common.{◌++◌, length, Option, Some, None, refl, sym, subst, ◌∙◌, leb, ltb, if◌then◌else◌}
use Rattle.std.specs.{Prelude.{Result, Ok, Err}, List.{list_any}, Option.{is_some}}
use Rattle.mdp_math.specs.Rational.{ℚ}
use Rattle.mdp_spec.specs.Mdp.{Entry}
use Rattle.mdp_rows.specs.Draft.{Draft, OpenState, OpenChoice, summed_rewards, closed_row, choice_closed, choice_closed_in, with_choice_closed, all_closed, state_opened}
use Rattle.mdp_rows.specs.Draft.{choice_opened, choice_opened_in, closed_choices, after_state, after_choice, after_entry, after_label, entry_in, with_choice_entry}
use Rattle.mdp_rows.specs.{Draft.{label_in, with_name, has_state, has_choice, ◌>>=◌}, declared.error.RowsError.{RowsError}}
use Rattle.mdp_rows.specs.declared.error.RowsError.TheVariants.{Count, TooMany, Target, Twice}
use Rattle.mdp_rows.proofs.Calls.Steps.{done, ok_same}

-- a test that was passed
pub passed_test : (b : Bool) (e : RowsError) (r : Result Draft RowsError) (n : Draft) → (if b then Err e else r) ≡ Ok n → r ≡ Ok n
passed_test true e r n h = absurd cc
passed_test false e r n h = h

state_of_done : (m n : Draft) → done m ≡ Ok n → IsTrue (has_state m) → IsTrue (has_state n)
state_of_done m n e h = subst (λ (x : Draft). IsTrue (has_state x)) (ok_same m n e) h

row_of_done : (m n : Draft) → done m ≡ Ok n → IsTrue (has_choice m) → IsTrue (has_choice n)
row_of_done m n e h = subst (λ (x : Draft). IsTrue (has_choice x)) (ok_same m n e) h

after_closing : (r : Result Draft RowsError) (rewards : List ℚ) (n : Draft) → (r >>= λ closed. state_opened closed rewards) ≡ Ok n → IsTrue (has_state n)
after_closing (Ok m) rewards n e = state_of_done _ n (passed_test (length m.closed == m.announced) Count _ n e) refl
after_closing (Err x) rewards n e = absurd cc

pub state_opens : (d n : Draft) (rewards : List ℚ) → after_state d rewards ≡ Ok n → IsTrue (has_state n)
state_opens d n rewards e = after_closing (all_closed d) rewards n e

-- ---- a choice

closed_keeps : (d n : Draft) (o : OpenState) (c : OpenChoice) (r : Result (List Entry) RowsError)
    → (r >>= λ k. Ok (record d { state = Some (record o { choices = o.choices ++ record { row = k; rewards = c.rewards } ∷ []; choice = None }) })) ≡ Ok n → IsTrue (has_state n)
closed_keeps d n o c (Ok k) e = state_of_done _ n e refl
closed_keeps d n o c (Err x) e = absurd cc

row_keeps : (d n : Draft) (o : OpenState) (r : Option OpenChoice) → IsTrue (has_state d) → with_choice_closed d o r ≡ Ok n → IsTrue (has_state n)
row_keeps d n o None h e = state_of_done d n e h
row_keeps d n o (Some c) h e = closed_keeps d n o c (closed_row d.rule (length d.closed) (length o.choices) c.row) e

keeps_state : (d n : Draft) (s : Option OpenState) → IsTrue (has_state d) → choice_closed_in d s ≡ Ok n → IsTrue (has_state n)
keeps_state d n None h e = state_of_done d n e h
keeps_state d n (Some o) h e = row_keeps d n o o.choice h e

sums_open : (m n : Draft) (o : OpenState) (r : Result (List ℚ) RowsError)
    → (r >>= λ sums. Ok (record m { state = Some (record o { choice = Some (record { rewards = sums; row = [] }) }) })) ≡ Ok n → IsTrue (has_state n) × IsTrue (has_choice n)
sums_open m n o (Ok sums) e = (state_of_done _ n e refl, row_of_done _ n e refl)
sums_open m n o (Err x) e = absurd cc

choice_row : (m n : Draft) (rewards : List ℚ) (s : Option OpenState) → IsTrue (is_some s) → choice_opened_in m rewards s ≡ Ok n → IsTrue (has_state n) × IsTrue (has_choice n)
choice_row m n rewards None h e = absurd cc
choice_row m n rewards (Some o) h e =
    sums_open m n o (summed_rewards o.rewards rewards) (passed_test (ltb (2 ^ 22) (closed_choices m + length o.choices + 1)) TooMany _ n e)

choice_after : (d n : Draft) (rewards : List ℚ) (r : Result Draft RowsError) → r ≡ choice_closed d → IsTrue (has_state d) → (r >>= λ closed. choice_opened closed rewards) ≡ Ok n
    → IsTrue (has_state n) × IsTrue (has_choice n)
choice_after d n rewards (Ok m) f h e = choice_row m n rewards m.state (keeps_state d m d.state h (sym f)) e
choice_after d n rewards (Err x) f h e = absurd cc

pub choice_opens : (d n : Draft) (rewards : List ℚ) → IsTrue (has_state d) → after_choice d rewards ≡ Ok n → IsTrue (has_state n) × IsTrue (has_choice n)
choice_opens d n rewards h e = choice_after d n rewards (choice_closed d) refl h e

-- ---- an entry

entry_row : (d n : Draft) (t : ℕ) (x : ℚ) (o : OpenState) (r : Option OpenChoice) → IsTrue (is_some r) → with_choice_entry d t x o r ≡ Ok n → IsTrue (has_state n) × IsTrue (has_choice n)
entry_row d n t x o None h e = absurd cc
entry_row d n t x o (Some c) h e =
    let k = passed_test (leb (2 ^ 24) d.entries) TooMany _ n (passed_test (list_any (λ y. y.target == t) c.row) Twice _ n (passed_test (leb d.announced t) Target _ n e)) in
    (state_of_done _ n k refl, row_of_done _ n k refl)

abbrev row_in : Option OpenState → Bool
row_in None = false
row_in (Some o) = is_some o.choice

entry_state : (d n : Draft) (t : ℕ) (x : ℚ) (s : Option OpenState) → IsTrue (row_in s) → entry_in d t x s ≡ Ok n → IsTrue (has_state n) × IsTrue (has_choice n)
entry_state d n t x None h e = absurd cc
entry_state d n t x (Some o) h e = entry_row d n t x o o.choice h e

row_of_draft : (d : Draft) (s : Option OpenState) → d.state ≡ s → has_choice d ≡ row_in s
row_of_draft d None e = rw e refl
row_of_draft d (Some o) e = rw e refl

pub entry_keeps : (d n : Draft) (t : ℕ) (x : ℚ) → IsTrue (has_choice d) → after_entry d t x ≡ Ok n → IsTrue (has_state n) × IsTrue (has_choice n)
entry_keeps d n t x h e = entry_state d n t x d.state (sym (row_of_draft d d.state refl) ∙ h) e

-- ---- a label

label_state : (d n : Draft) (name : List ℕ) (s : Option OpenState) → IsTrue (is_some s) → label_in d name s ≡ Ok n → IsTrue (has_state n)
label_state d n name None h e = absurd cc
label_state d n name (Some o) h e =
    state_of_done _ n (passed_test (leb 64 o.label_calls || ltb 1024 (length (with_name d.labels name))) TooMany _ n e) refl

pub label_keeps : (d n : Draft) (name : List ℕ) → IsTrue (has_state d) → after_label d name ≡ Ok n → IsTrue (has_state n)
label_keeps d n name h e = label_state d n name d.state h e
