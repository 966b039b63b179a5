-- The lines of a model's states, read one after another, make what the calls of a builder make.
use Rattle.std.proofs.Common.{◌≡◌, ℕ, suc, ◌+◌, ◌<◌, ◌≤◌, false, eqb, List, [], ◌∷◌, ◌++◌, length, map, sum_by, get_or, decimal, codes, append_assoc}
use Rattle.std.proofs.{Common.{refl, sym, ap, ap₂, subst, ◌∙◌, arith, Option, Ok}, lemmas.List.{length-map}, lemmas.List.Sums.{sum_by-cons}}
use Rattle.mdp_num.specs.{Numeral.{limit}, Value.{spelling}}
use Rattle.mdp_spec.specs.Mdp.{Entry, Choice, State, Mdp}
use Rattle.mdp_rows.specs.Draft.{Draft, ◌>>=◌, after_entry, after_label, after_choice, choice_closed, choice_opened, after_state, all_closed, state_opened}
use Rattle.mdp_rows.specs.Replay.{no_rewards, with_entries, with_choices, with_states}
use Rattle.mdp_rows.specs.Replay as replay
use Rattle.mdp_drn.specs.{Outcome.{◌>>=◌ as ◌then◌}, Body.{with_labels}}
use Rattle.mdp_drn.specs.Writing.{line, joined, bracket_text, labels_text, entry_text, row_text, choices_text, states_text}
use Rattle.mdp_drn.proofs.{TextWritten.Bytes.{not_empty}, TextWritten.Lines.{flat, flat-append, AreLines, are-append}}
use Rattle.mdp_drn.proofs.TextWritten.Numbers.{is-decimal, limit-wide, spelling-value}
use Rattle.mdp_drn.proofs.{TextWritten.Brackets.{spellings, zeros, lengths, commas, joined-bytes, joined-short}, TextWritten.Labels.{names_at}}
use Rattle.mdp_drn.proofs.LinesRead.DraftCalls.{ok-is, bound, count, Stays, stays-same, stays-then, HasState, HasChoice, choice-closed, all-closed}
use Rattle.mdp_drn.proofs.LinesRead.DraftCalls.{state-opened, label-given, choice-opened, Enters, entry-given}
use Rattle.mdp_drn.proofs.TextWritten.States.{state_text, state_text-is, state-content, state-no_comment, state-no_feed, state-short, state-line}
use Rattle.mdp_drn.proofs.TextWritten.Choices.{action_text, action-content, action-no_comment, action-no_feed, action-short, action-line}
use Rattle.mdp_drn.proofs.TextWritten.Choices.{transition_text, transition_text-is, transition-content, transition-no_comment, transition-no_feed}
use Rattle.mdp_drn.proofs.TextWritten.Choices.{transition-short, transition-line, behind_target}
use Rattle.mdp_drn.proofs.TextWritten.LineByLine.{Makes, makes-none, makes-then, makes-line, body}
use Rattle.mdp_drn.proofs.TextWritten.Models.{Each, IsEntryFit, IsChoiceFit, IsStateFit}

-- ---- the text as lines

abbrev pub row_lines : List Entry → List (List ℕ)
row_lines [] = []
row_lines (x ∷ row) = entry_text x ∷ row_lines row

abbrev action_line_of : ℕ → Choice → List ℕ
action_line_of c x = 9 ∷ codes "action " ++ decimal c ++ bracket_text (map spelling x.rewards)

abbrev pub choices_lines : ℕ → List Choice → List (List ℕ)
choices_lines c [] = []
choices_lines c (x ∷ choices) = action_line_of c x ∷ (row_lines x.row ++ choices_lines (suc c) choices)

abbrev zero_texts : Mdp → List (List ℕ)
zero_texts m = map (λ name. 48 ∷ []) m.names

abbrev state_line_of : Mdp → ℕ → State → List ℕ
state_line_of m s x = codes "state " ++ decimal s ++ bracket_text (zero_texts m) ++ labels_text m.labels x.labels

abbrev pub states_lines : Mdp → ℕ → List State → List (List ℕ)
states_lines m s [] = []
states_lines m s (x ∷ states) = state_line_of m s x ∷ (choices_lines 0 x.choices ++ states_lines m (suc s) states)

row-flat : (row : List Entry) → row_text row ≡ flat (row_lines row)
row-flat [] = refl
row-flat (x ∷ row) = ap (λ (t : List ℕ). line (entry_text x) ++ t) (row-flat row)

choices-flat : (c : ℕ) (choices : List Choice) → choices_text c choices ≡ flat (choices_lines c choices)
choices-flat c [] = refl
choices-flat c (x ∷ choices) =
    append_assoc (line (action_line_of c x)) (row_text x.row) (choices_text (suc c) choices)
    ∙ ap (λ (t : List ℕ). line (action_line_of c x) ++ t)
    (ap₂ (λ (t u : List ℕ). t ++ u) (row-flat x.row) (choices-flat (suc c) choices) ∙ sym (flat-append (row_lines x.row) (choices_lines (suc c) choices)))

pub states-flat : (m : Mdp) (s : ℕ) (states : List State) → states_text m s states ≡ flat (states_lines m s states)
states-flat m s [] = refl
states-flat m s (x ∷ states) =
    append_assoc (line (state_line_of m s x)) (choices_text 0 x.choices) (states_text m (suc s) states)
    ∙ ap (λ (t : List ℕ). line (state_line_of m s x) ++ t)
    (ap₂ (λ (t u : List ℕ). t ++ u) (choices-flat 0 x.choices) (states-flat m (suc s) states) ∙ sym (flat-append (choices_lines 0 x.choices) (states_lines m (suc s) states)))

-- ---- lines that make one draft of another

pub record Writes (choices : Option ℕ) (d : Draft) (lines : List (List ℕ)) (e : Draft) : Type 0 where
  pub makes : Makes choices d lines e
  pub are : AreLines lines

module _ (choices : Option ℕ) where
  writes-none : (d : Draft) → Writes choices d [] d
  writes-none d = record { makes = makes-none choices d; are = tt }

  writes-then : (d e f : Draft) (xs ys : List (List ℕ)) → Writes choices d xs e → Writes choices e ys f → Writes choices d (xs ++ ys) f
  writes-then d e f xs ys h k = record { makes = makes-then choices d e f xs ys h.makes k.makes; are = are-append xs ys h.are k.are }

  -- ---- entries

  entry-written : (x : Entry) (d e : Draft) → IsEntryFit x → HasChoice d → d.announced ≤ limit
      → after_entry d x.target x.prob ≡ Ok e → Writes choices d (entry_text x ∷ []) e × Enters d e x.target
  entry-written x d e fit c few h =
      let g = entry-given d e x.target x.prob c h in
      let v = spelling-value x.prob fit in
      let small : x.target ≤ limit = omega (arith, g.inside) in
      let t : ℕ = x.target in
      let value : List ℕ = spelling x.prob in
      let d_is = is-decimal x.target (limit-wide x.target small) in
      let some : eqb (length (transition_text x.target (spelling x.prob))) 0 ≡ false =
      ap (λ (s : List ℕ). eqb (length (s ++ behind_target (spelling x.prob))) 0) d_is.is ∙ not_empty (length (d_is.rest ++ behind_target (spelling x.prob))) in
      let w : Writes choices d ((9 ∷ 9 ∷ transition_text x.target (spelling x.prob)) ∷ []) e =
      record {
        makes =
            makes-line choices (9 ∷ 9 ∷ transition_text x.target (spelling x.prob)) (transition_text x.target (spelling x.prob)) d e
            (transition-short x.target (spelling x.prob) x.prob small v) (transition-content x.target (spelling x.prob) x.prob small v)
            (transition-no_comment x.target (spelling x.prob) x.prob small v) some
            (λ number s a. (s, a, transition-line x.target (spelling x.prob) x.prob small v (body d s a) number e c g.inside g.once h));
        are = (transition-no_feed x.target (spelling x.prob) x.prob small v, tt);
      } in
      (subst (λ (t : List ℕ). Writes choices d (t ∷ []) e) (sym (transition_text-is x.target (spelling x.prob))) w, g)

  row-written : (row : List Entry) (d e : Draft) → Each IsEntryFit row → HasChoice d → d.announced ≤ limit
      → with_entries row d ≡ Ok e → Writes choices d (row_lines row) e × Stays d e × HasChoice e
  row-written [] d e fit c few h = subst (λ (x : Draft). Writes choices d [] x × Stays d x × HasChoice x) (ok-is d e h) (writes-none d, stays-same d, c)
  row-written (x ∷ row) d e fit c few h =
      let b = bound (after_entry d x.target x.prob) (with_entries row) e h in
      let first = entry-written x d b.0 fit.0 c few b.1 in
      let g = first.1 in
      let rest = row-written row b.0 e fit.1 g.choice (omega (arith, g.stays.announced)) b.2 in
      (writes-then d b.0 e (entry_text x ∷ []) (row_lines row) first.0 rest.0, stays-then d b.0 e g.stays rest.1, rest.2)

  -- ---- choices

  has-state : (d : Draft) → HasChoice d → HasState d
  has-state d h = (h.0, h.2)

  action-written : (names c : ℕ) (x : Choice) (d closed opened : Draft) → IsChoiceFit names x → c ≤ limit → HasState closed → length closed.names ≡ names → 0 < names → names ≤ 16
      → choice_closed d ≡ Ok closed → choice_opened closed x.rewards ≡ Ok opened → Writes choices d (action_line_of c x ∷ []) opened
  action-written names c x d closed opened fit small s is some few e1 e2 =
      let values : List (List ℕ) = map spelling x.rewards in
      let v = spellings x.rewards fit.rewards in
      let n : length (map spelling x.rewards) ≡ names = lengths (map spelling x.rewards) x.rewards v ∙ fit.as_many in
      let inside : List ℕ = joined commas (map spelling x.rewards) in
      let short : length (joined commas (map spelling x.rewards)) ≤ 1248 = omega (arith, joined-short (map spelling x.rewards) x.rewards v) in
      record {
        makes =
            makes-line choices (9 ∷ action_text c inside) (action_text c inside) d opened (action-short c inside small short) (action-content c inside) (action-no_comment c inside) (not_empty _)
            (λ number t a. (t, number, action-line (body d t a) number c closed opened (map spelling x.rewards) x.rewards refl e1 e2 s (omega (arith, n)) (n ∙ sym is) v));
        are = (action-no_feed c inside small (joined-bytes (map spelling x.rewards) x.rewards v), tt);
      }

  choices-written : (names c : ℕ) (xs : List Choice) (d e : Draft) → Each (IsChoiceFit names) xs
      → c + length xs ≤ limit → HasState d → length d.names ≡ names → 0 < names → names ≤ 16 → d.announced ≤ limit
      → with_choices xs d ≡ Ok e → Writes choices d (choices_lines c xs) e × Stays d e × HasState e
  choices-written names c [] d e fit small s is some few announced h = subst (λ (x : Draft). Writes choices d [] x × Stays d x × HasState x) (ok-is d e h) (writes-none d, stays-same d, s)
  choices-written names c (x ∷ xs) d e fit small s is some few announced h =
      let b = bound (after_choice d x.rewards) (λ opened. with_entries x.row opened >>= with_choices xs) e h in
      let opened : Draft = b.0 in
      let q = bound (choice_closed d) (λ closed. choice_opened closed x.rewards) b.0 b.1 in
      let r = bound (with_entries x.row b.0) (with_choices xs) e b.2 in
      let closed = choice-closed d q.0 q.1 in
      let o = choice-opened q.0 b.0 x.rewards (closed.1 s) q.2 in
      let to_open = stays-then d q.0 b.0 closed.0 o.0 in
      let action = action-written names c x d q.0 b.0 fit.0 (omega arith) (closed.1 s) (ap length closed.0.names ∙ is) some few q.1 q.2 in
      let row = row-written x.row b.0 r.0 (IsChoiceFit.row fit.0) o.1 (omega (arith, to_open.announced)) r.1 in
      let to_row = stays-then d b.0 r.0 to_open row.1 in
      let rest = choices-written names (suc c) xs r.0 e fit.1 (omega arith) (has-state r.0 row.2) (ap length to_row.names ∙ is) some few (omega (arith, to_row.announced)) r.2 in (
        writes-then d b.0 e (action_line_of c x ∷ []) (row_lines x.row ++ choices_lines (suc c) xs) action (writes-then b.0 r.0 e (row_lines x.row) (choices_lines (suc c) xs) row.0 rest.0),
        stays-then d r.0 e to_row rest.1,
        rest.2,
      )

  -- ---- states

  labels-given : (labels : List (List ℕ)) (places : List ℕ) (d e : Draft) → replay.with_labels labels places d ≡ Ok e
      → (with_labels (names_at labels places) d ≡ Ok e) × Stays d e × (HasState d → HasState e)
  labels-given labels [] d e h = (h, subst (Stays d) (ok-is d e h) (stays-same d), λ s. subst HasState (ok-is d e h) s)
  labels-given labels (l ∷ places) d e h =
      let b = bound (after_label d (get_or labels l [])) (replay.with_labels labels places) e h in
      let g = label-given d b.0 (get_or labels l []) b.1 in
      let rest = labels-given labels places b.0 e b.2 in
      (ap (λ r. r then with_labels (names_at labels places)) b.1 ∙ rest.0, stays-then d b.0 e g.0 rest.1, λ s. rest.2 (g.1 s))

  state-written : (m : Mdp) (s : ℕ) (x : State) (d closed opened labelled : Draft) → IsStateFit m x → s ≤ limit → s ≡ length closed.closed → length closed.closed < closed.announced
      → closed.names ≡ m.names → 0 < length m.names → length m.names ≤ 16 → all_closed d ≡ Ok closed → state_opened closed (no_rewards m.names) ≡ Ok opened
      → with_labels (names_at m.labels x.labels) opened ≡ Ok labelled → Writes choices d (state_line_of m s x ∷ []) labelled
  state-written m s x d closed opened labelled fit small is lt names some few e1 e2 e3 =
      let values : List (List ℕ) = zero_texts m in
      let v = zeros m.names in
      let n : length (zero_texts m) ≡ length m.names = length-map m.names (λ name. 48 ∷ []) in
      let inside : List ℕ = joined commas (zero_texts m) in
      let short : length (joined commas (zero_texts m)) ≤ 1248 = omega (arith, joined-short (zero_texts m) (no_rewards m.names) v) in
      let labels : List (List ℕ) = names_at m.labels x.labels in
      let as_many : length (names_at m.labels x.labels) ≡ length x.labels = length-map x.labels (λ l. get_or m.labels l []) in
      let w : Writes choices d (state_text s (joined commas (zero_texts m)) (names_at m.labels x.labels) ∷ []) labelled =
      record {
        makes =
            makes-line choices (state_text s inside labels) (state_text s inside labels) d labelled
            (state-short s inside labels small short fit.labels (omega (arith, as_many, fit.few_labels))) (state-content s inside labels) (state-no_comment s inside labels) (not_empty _)
            (λ number t a. (
              number,
              a,
              state-line (body d t a) number s closed opened labelled (zero_texts m) labels
                  (no_rewards m.names) e1 e2 e3 small is lt (omega (arith, n)) (n ∙ sym (ap length names)) v fit.labels,
            ));
        are = (state-no_feed s inside labels small (joined-bytes (zero_texts m) (no_rewards m.names) v) fit.labels, tt);
      } in
      subst (λ (t : List ℕ). Writes choices d (t ∷ []) labelled) (sym (state_text-is s (zero_texts m) m.labels x.labels)) w

  pub states-written : (m : Mdp) (s : ℕ) (xs : List State) (d e : Draft) → Each (IsStateFit m) xs → count d ≡ s → s + length xs ≡ d.announced → d.announced ≤ limit
      → sum_by (λ x. length x.choices) xs ≤ limit → d.names ≡ m.names → 0 < length m.names → length m.names ≤ 16
      → with_states m.names m.labels xs d ≡ Ok e → Writes choices d (states_lines m s xs) e
  states-written m s [] d e fit is left small choices_fit names some few h = subst (λ (x : Draft). Writes choices d [] x) (ok-is d e h) (writes-none d)
  states-written m s (x ∷ xs) d e fit is left small choices_fit names some few h =
      let b = bound (after_state d (no_rewards m.names))
      (λ opened. replay.with_labels m.labels x.labels opened >>= λ labelled. with_choices x.choices labelled >>= with_states m.names m.labels xs) e h in
      let q = bound (all_closed d) (λ closed. state_opened closed (no_rewards m.names)) b.0 b.1 in
      let r = bound (replay.with_labels m.labels x.labels b.0) (λ labelled. with_choices x.choices labelled >>= with_states m.names m.labels xs) e b.2 in
      let t = bound (with_choices x.choices r.0) (with_states m.names m.labels xs) e r.2 in
      let total : sum_by (λ x. length x.choices) (x ∷ xs) ≡ length x.choices + sum_by (λ x. length x.choices) xs = sum_by-cons (λ (x : State). length x.choices) x xs in
      let shut = all-closed d q.0 q.1 in
      let o = state-opened q.0 b.0 (no_rewards m.names) q.2 in
      let l = labels-given m.labels x.labels b.0 r.0 r.1 in
      let names_closed : Draft.names q.0 ≡ m.names = shut.names ∙ names in
      let names_labelled : Draft.names r.0 ≡ m.names = l.1.names ∙ o.names ∙ names_closed in
      let announced_labelled : Draft.announced r.0 ≡ d.announced = l.1.announced ∙ o.announced ∙ shut.announced in
      let state = state-written m s x d q.0 b.0 r.0 fit.0 (omega arith) (sym (shut.closed ∙ is)) (omega (arith, shut.closed, shut.announced, is, left)) names_closed some few q.1 q.2 l.0 in
      let cs = choices-written (length m.names) 0 x.choices r.0 t.0 (IsStateFit.choices fit.0) (omega (arith, total))
      (l.2 o.state) (ap length names_labelled) some few (omega (arith, announced_labelled)) t.1 in
      let counted : count t.0 ≡ suc s = cs.1.count ∙ l.1.count ∙ o.count ∙ ap suc (shut.closed ∙ is) in
      let announced : Draft.announced t.0 ≡ d.announced = cs.1.announced ∙ announced_labelled in
      let rest = states-written m (suc s) xs t.0 e fit.1 counted (omega (arith, announced, left)) (omega (arith, announced)) (omega (arith, total)) (cs.1.names ∙ names_labelled) some few t.2 in
      writes-then d r.0 e (state_line_of m s x ∷ []) (choices_lines 0 x.choices ++ states_lines m (suc s) xs) state
      (writes-then r.0 t.0 e (choices_lines 0 x.choices) (states_lines m (suc s) xs) cs.0 rest)
