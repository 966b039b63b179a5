-- A model that is handed to a builder, state by state, comes out as it is.
pub mod Labels
pub mod Rewards
pub mod Rows
use Rattle.std.proofs.Common.{◌≡◌, ℕ, ◌+◌, ◌≤◌, ◌<◌, ◌^◌, Bool, IsTrue, le-ltb, eq-eqb, List, [], ◌∷◌, ◌++◌, length, take, sum_by, get_or, Some, None, refl, sym, ap, ap₂}
use Rattle.std.proofs.{Common.{◌∙◌, subst, arith, if◌then◌else◌, append_assoc, append-nil, length-append}, lemmas.Bool.{ne_eqb}, lemmas.List.{get_or_default}}
use Rattle.std.proofs.{lemmas.List.Elements.{recursion_from_All}, lemmas.List.Sums.{sum_by-cons, sum_by_push}, Math.Seq.{take-length}}
use Rattle.std.specs.{Prelude.{Result, Ok, Err}, List.{All, AllByRecursion}}
use Rattle.mdp_math.proofs.Booleans.{and-left, and-right}
use Rattle.mdp_math.specs.Rational.{ℚ}
use Rattle.mdp_spec.specs.{Mdp.{Entry, Choice, State, Mdp, no_state, no_choice, states_of}, Row.{IsRow}}
use Rattle.mdp_rows.specs.{Name.{are_different}, Limits.{known_after, all_below, in_order_of_sight, HasSmallTerms, IsChoiceWithin, IsStateWithin, IsModel}}
use Rattle.mdp_rows.specs.Draft.{Draft, choice_closed, state_closed, all_closed, state_opened, after_state, summed_rewards, choice_opened, after_choice, finished, after_finish, ◌>>=◌}
use Rattle.mdp_rows.specs.Sound.{IsClosedState, choice_count, entry_count}
use Rattle.mdp_rows.specs.{Replay.{no_rewards, with_labels, with_entries, with_choices, with_states, IsReplayed}, declared.error.RowsError.{RowsError}}
use Rattle.mdp_rows.specs.declared.error.RowsError.TheVariants.{TooMany, NoChoice, Count}
use Rattle.mdp_rows.proofs.{SoundCalls.Labels.{known_by, known_by-le, known_by-total}, ReplayStates.Rewards.{summed-zeros}}
use Rattle.mdp_rows.proofs.{ReplayStates.Rows.{draft_of, all_entries, closed_row-same}, ReplayStates.Labels.{all_labels}}

-- what is known of a choice of a model
record IsChoiceOf (announced names : ℕ) (c : Choice) : Type 0 where
  row : IsRow announced c.row
  within : IsChoiceWithin names c

abbrev pub row_count : List Choice → ℕ
row_count choices = sum_by (λ c. length c.row) choices

-- ---- the choices of a state

module _ (announced : ℕ) (names labels : List (List ℕ)) (closed : List State) (places : List ℕ) (calls : ℕ) where
  -- the state with these choices, all closed
  abbrev between : List Choice → ℕ → Draft
  between choices entries =
      draft_of announced names labels closed (Some (record { rewards = no_rewards names; labels = places; label_calls = calls; choices = choices; choice = None })) entries

  abbrev opened : List Choice → List ℚ → List Entry → ℕ → Draft
  opened choices rewards row entries =
      draft_of announced names labels closed (Some (record
      { rewards = no_rewards names; labels = places; label_calls = calls; choices = choices; choice = Some (record { rewards = rewards; row = row }) })) entries

  open_one : (done : List Choice) (c : Choice) (entries : ℕ) → choice_count closed + length done + 1 ≤ 2 ^ 22 → IsChoiceOf announced (length names) c
      → choice_opened (between done entries) c.rewards ≡ Ok (opened done c.rewards [] entries)
  open_one done c entries few ok =
      ap (λ (b : Bool). if b then Err TooMany else (summed_rewards (no_rewards names) c.rewards >>= λ sums. Ok (opened done sums [] entries)))
      (le-ltb (2 ^ 22) (choice_count closed + length done + 1) few)
      ∙ ap (λ (r : Result (List ℚ) RowsError). r >>= λ sums. Ok (opened done sums [] entries))
      (summed-zeros names c.rewards ok.within.rewards (recursion_from_All HasSmallTerms c.rewards ok.within.terms))

  fill_one : (done : List Choice) (c : Choice) (entries : ℕ) → entries + length c.row ≤ 2 ^ 24 → IsChoiceOf announced (length names) c
      → with_entries c.row (opened done c.rewards [] entries) ≡ Ok (opened done c.rewards c.row (entries + length c.row))
  fill_one done c entries room ok =
      all_entries announced names labels closed (record { rewards = no_rewards names; labels = places; label_calls = calls; choices = done; choice = None }) c.rewards [] c.row entries
      ok.row.distribution.ascending (recursion_from_All (λ x. x.target < announced) c.row ok.row.in_range) room

  close_one : (done : List Choice) (c : Choice) (entries : ℕ) → IsChoiceOf announced (length names) c → choice_closed (opened done c.rewards c.row entries) ≡ Ok (between (done ++ c ∷ []) entries)
  close_one done c entries ok =
      ap (λ (r : Result (List Entry) RowsError). r >>= λ row. Ok (between (done ++ record { row = row; rewards = c.rewards } ∷ []) entries))
      (closed_row-same (length closed) (length done) c.row ok.row.distribution ok.within.den)

  -- all are there as soon as the last is closed
  all_choices : (now : Draft) (done rest : List Choice) (entries : ℕ) → choice_closed now ≡ Ok (between done entries) → AllByRecursion (IsChoiceOf announced (length names)) rest
      → choice_count closed + length done + length rest ≤ 2 ^ 22 → entries + row_count rest ≤ 2 ^ 24
      → (last : Draft) × (with_choices rest now ≡ Ok last) × (choice_closed last ≡ Ok (between (done ++ rest) (entries + row_count rest)))
  all_choices now done [] entries e all few room = (now, refl, e ∙ ap₂ (λ (cs : List Choice) (n : ℕ). Ok (between cs n)) (sym (append-nil done)) (omega arith))
  all_choices now done (c ∷ rest) entries e all few room =
      let s : row_count (c ∷ rest) ≡ length c.row + row_count rest = sum_by-cons (λ (x : Choice). length x.row) c rest in
      let same : (done ++ c ∷ []) ++ rest ≡ done ++ c ∷ rest = append_assoc done (c ∷ []) rest in
      let longer : length (done ++ c ∷ []) ≡ length done + 1 = length-append done (c ∷ []) in
      let filled : Draft = opened done c.rewards c.row (entries + length c.row) in
      let opens : after_choice now c.rewards ≡ Ok (opened done c.rewards [] entries) =
      ap (λ (r : Result Draft RowsError). r >>= λ closed. choice_opened closed c.rewards) e ∙ open_one done c entries (omega arith) all.0
      in
      let n = all_choices filled (done ++ c ∷ []) rest (entries + length c.row) (close_one done c (entries + length c.row) all.0) all.1 (omega arith) (omega arith) in (
        n.0,
        ap (λ (r : Result Draft RowsError). r >>= λ opened. with_entries c.row opened >>= with_choices rest) opens
            ∙ ap (λ (r : Result Draft RowsError). r >>= with_choices rest) (fill_one done c entries (omega arith) all.0)
            ∙ n.1,
        n.2 ∙ ap₂ (λ (cs : List Choice) (k : ℕ). Ok (between cs k)) same (omega arith),
      )

-- ---- the states

module _ (announced : ℕ) (names labels : List (List ℕ)) (different : IsTrue (are_different labels)) (few_labels : length labels ≤ 1024) where
  -- the states so far, all closed, n labels known
  abbrev so_far : List State → ℕ → ℕ → Draft
  so_far closed n entries = draft_of announced names (take n labels) closed None entries

  abbrev labelled : List State → ℕ → List ℕ → ℕ → ℕ → Draft
  labelled closed n places calls entries =
      draft_of announced names (take n labels) closed (Some (record { rewards = no_rewards names; labels = places; label_calls = calls; choices = []; choice = None })) entries

  open_state : (closed : List State) (n entries : ℕ) → length closed < announced → state_opened (so_far closed n entries) (no_rewards names) ≡ Ok (labelled closed n [] 0 entries)
  open_state closed n entries h =
      ap (λ (b : Bool). if b then Err Count else Ok (labelled closed n [] 0 entries)) (ne_eqb (length closed) announced (λ e. omega arith))

  label_state : (closed : List State) (n entries : ℕ) (x : State) → IsStateWithin (length names) x → IsTrue (all_below (known_after n x.labels) x.labels) → n ≤ length labels
      → known_after n x.labels ≤ length labels
      → with_labels labels x.labels (labelled closed n [] 0 entries) ≡ Ok (labelled closed (known_after n x.labels) x.labels (0 + length x.labels) entries)
  label_state closed n entries x ok below h k =
      all_labels announced names labels closed (record { rewards = no_rewards names; labels = []; label_calls = 0; choices = []; choice = None }) entries different few_labels n [] x.labels 0
      ok.ascending below h k (let f = ok.few_labels in omega (arith, f))

  close_state : (closed : List State) (n calls entries : ℕ) (x : State) → 0 < length x.choices
      → state_closed (between announced names (take n labels) closed x.labels calls x.choices entries) ≡ Ok (so_far (closed ++ x ∷ []) n entries)
  close_state closed n calls entries x h =
      ap (λ (b : Bool). if b then Err (NoChoice (length closed)) else Ok (so_far (closed ++ x ∷ []) n entries)) (ne_eqb (length x.choices) 0 (λ e. omega arith))

  choices_of : (x : State) → IsClosedState announced (length names) x → AllByRecursion (IsChoiceOf announced (length names)) x.choices
  choices_of x ok = recursion_from_All (IsChoiceOf announced (length names)) x.choices (λ k d l. record { row = ok.rows k d l; within = ok.within.choices k d l })

  -- one state, and its closing
  one_state : (now : Draft) (closed : List State) (n entries : ℕ) (x : State) → all_closed now ≡ Ok (so_far closed n entries) → IsClosedState announced (length names) x → length closed < announced
      → IsTrue (all_below (known_after n x.labels) x.labels) → n ≤ length labels → known_after n x.labels ≤ length labels → choice_count closed + length x.choices ≤ 2 ^ 22
      → entries + row_count x.choices ≤ 2 ^ 24
      → (last : Draft) × ((states : List State) → with_states names labels (x ∷ states) now ≡ with_states names labels states last) × (all_closed last ≡ Ok
      (so_far (closed ++ x ∷ []) (known_after n x.labels) (entries + row_count x.choices)))
  one_state now closed n entries x e ok room below h k few fits =
      let opens : after_state now (no_rewards names) ≡ Ok (labelled closed n [] 0 entries) =
      ap (λ (r : Result Draft RowsError). r >>= λ closed. state_opened closed (no_rewards names)) e ∙ open_state closed n entries room
      in
      let names_it = label_state closed n entries x ok.within below h k in
      let first : Draft = labelled closed (known_after n x.labels) x.labels (0 + length x.labels) entries in
      let c = all_choices announced names (take (known_after n x.labels) labels) closed x.labels (0 + length x.labels) first [] x.choices entries refl (choices_of x ok) (omega arith) fits in (
        c.0,
        (λ states.
            ap (λ (r : Result Draft RowsError). r >>= λ opened. with_labels labels x.labels opened >>= λ labelled. with_choices x.choices labelled >>= with_states names labels states) opens
            ∙ ap (λ (r : Result Draft RowsError). r >>= λ labelled. with_choices x.choices labelled >>= with_states names labels states) names_it
            ∙ ap (λ (r : Result Draft RowsError). r >>= with_states names labels states) c.1),
        ap (λ (r : Result Draft RowsError). r >>= state_closed) c.2 ∙ close_state closed (known_after n x.labels) (0 + length x.labels) (entries + row_count x.choices) x ok.some,
      )

  -- one state, and the others after it
  joined : (now mid : Draft) (x : State) (rest : List State) (to same : Draft) → with_states names labels (x ∷ rest) now ≡ with_states names labels rest mid
      → (last : Draft) × (with_states names labels rest mid ≡ Ok last) × (all_closed last ≡ Ok to) → to ≡ same
      → (last : Draft) × (with_states names labels (x ∷ rest) now ≡ Ok last) × (all_closed last ≡ Ok same)
  joined now mid x rest to same first next e = (next.0, first ∙ next.1, next.2 ∙ ap (λ (d : Draft). Ok d) e)

  all_states : (now : Draft) (closed rest : List State) (n entries : ℕ) → all_closed now ≡ Ok (so_far closed n entries) → AllByRecursion (IsClosedState announced (length names)) rest
      → length closed + length rest ≤ announced
      → IsTrue (in_order_of_sight n rest (length labels)) → n ≤ length labels → choice_count closed + choice_count rest ≤ 2 ^ 22 → entries + entry_count rest ≤ 2 ^ 24
      → (last : Draft) × (with_states names labels rest now ≡ Ok last) × (all_closed last ≡ Ok (so_far (closed ++ rest) (known_by n rest) (entries + entry_count rest)))
  all_states now closed [] n entries e all room sight h few fits =
      (now, refl, e ∙ ap₂ (λ (xs : List State) (k : ℕ). Ok (so_far xs n k)) (sym (append-nil closed)) (omega arith))
  all_states now closed (x ∷ rest) n entries e all room sight h few fits =
      let c : choice_count (x ∷ rest) ≡ length x.choices + choice_count rest = sum_by-cons (λ (y : State). length y.choices) x rest in
      let r : entry_count (x ∷ rest) ≡ row_count x.choices + entry_count rest = sum_by-cons (λ (y : State). row_count y.choices) x rest in
      let d : choice_count (closed ++ x ∷ []) ≡ choice_count closed + length x.choices = sum_by_push (λ (y : State). length y.choices) closed x in
      let l : length (closed ++ x ∷ []) ≡ length closed + 1 = length-append closed (x ∷ []) in
      let below = and-left (all_below (known_after n x.labels) x.labels) (in_order_of_sight (known_after n x.labels) rest (length labels)) sight in
      let later = and-right (all_below (known_after n x.labels) x.labels) (in_order_of_sight (known_after n x.labels) rest (length labels)) sight in
      let k : known_after n x.labels ≤ length labels =
      (let a = known_by-le (known_after n x.labels) rest in let b = known_by-total (known_after n x.labels) (length labels) rest later in omega arith)
      in
      let one = one_state now closed n entries x e all.0 (omega arith) below h k (omega arith) (omega arith) in
      let next = all_states one.0 (closed ++ x ∷ []) rest (known_after n x.labels) (entries + row_count x.choices) one.2 all.1 (omega arith) later k (omega arith) (omega arith) in
      joined now one.0 x rest (so_far ((closed ++ x ∷ []) ++ rest) (known_by n (x ∷ rest)) (entries + row_count x.choices + entry_count rest))
      (so_far (closed ++ x ∷ rest) (known_by n (x ∷ rest)) (entries + entry_count (x ∷ rest))) (one.1 rest) next
      (ap₂ (λ (xs : List State) (i : ℕ). so_far xs (known_by n (x ∷ rest)) i) (append_assoc closed (x ∷ []) rest) (omega arith))

-- ---- the model

pub closed_at : (m : Mdp) → IsModel m → (k : ℕ) (d : State) → k < length m.states → IsClosedState (states_of m) (length m.names) (get_or m.states k d)
closed_at m ok k d l =
    let e : get_or m.states k no_state ≡ get_or m.states k d = get_or_default m.states k no_state d l in
    record {
      some = subst (λ (x : State). 0 < length x.choices) e (ok.mdp.choice k l);
      within = ok.states k d l;
      rows = subst (λ (x : State). All (λ c. IsRow (states_of m) c.row) x.choices) e (rows_at k l);
    }
  where
    rows_at : (k : ℕ) → k < length m.states → All (λ c. IsRow (states_of m) c.row) (State.choices (get_or m.states k no_state))
    rows_at k l = λ c d h. subst (λ (x : Choice). IsRow (states_of m) x.row) (get_or_default (State.choices (get_or m.states k no_state)) c no_choice d h) (ok.mdp.row k c l h)

pub is_replayed : IsReplayed
is_replayed m ok =
    let start : Draft = so_far (states_of m) m.names m.labels ok.different ok.few_labels [] 0 0 in
    let known : known_by 0 m.states ≡ length m.labels = known_by-total 0 (length m.labels) m.states ok.sight in
    let s =
    all_states (states_of m) m.names m.labels ok.different ok.few_labels start [] m.states 0 0 refl
    (recursion_from_All (IsClosedState (states_of m) (length m.names)) m.states (closed_at m ok)) (omega arith) ok.sight (omega arith)
    (let h = ok.few_choices in omega (arith, h)) (let h = ok.few_entries in omega (arith, h))
    in
    ap (λ (r : Result Draft RowsError). r >>= after_finish) s.1
    ∙ ap (λ (r : Result Draft RowsError). r >>= finished) s.2
    ∙ ap (λ (b : Bool). if b then Ok (let v : Mdp = record { names = m.names; labels = take (known_by 0 m.states) m.labels; states = m.states } in v) else Err Count)
    (eq-eqb (length m.states) (states_of m) refl)
    ∙ ap (λ (ls : List (List ℕ)). Ok (let v : Mdp = record { names = m.names; labels = ls; states = m.states } in v)) (ap (λ (k : ℕ). take k m.labels) known ∙ take-length m.labels)
