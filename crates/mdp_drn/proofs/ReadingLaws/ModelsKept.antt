-- What a text reads as keeps all that a model keeps: each line makes of what keeps it what keeps it too.
use Rattle.std.proofs.Common.{◌≡◌, ℕ, ◌+◌, Bool, true, false, not, cond, eqb, ltb, leb, List, [], ◌∷◌, length, map, drop, refl}
use Rattle.std.proofs.Common.{sym, ap, subst, ◌∙◌, arith, Option, Some, None, Result, Ok, Err, IfOk, pos, codes, is_some, eqb-true, ◌&&◌}
use Rattle.std.proofs.{lemmas.List.{length-replicate}, lemmas.List.Elements.{All-nil, All-cons, All-head, All-tail, All-append, All-drop}}
use Rattle.std.specs.{Prelude.{replicate}, List.{All, slice_split, onto_first, prefix_len}, Char.{is_ascii_digit}}
use Rattle.mdp_math.specs.Rational.{ℚ, of_int, ratio}
use Rattle.mdp_spec.specs.Mdp.{Mdp}
use Rattle.mdp_num.specs.{Digits.{front_digits, behind_digits, number}, Meaning.{AreWithinLimit, IsWithinLimit}, Numeral.{parts_of, terms_of, numeral_of}}
use Rattle.mdp_num.specs.declared.errors.NumeralError.{NumeralError}
use Rattle.mdp_num.specs.Numeral as numeral
use Rattle.mdp_num.proofs.Meaning.{terms-all_within, value-within}
use Rattle.mdp_rows.specs.{Name.{IsName, IsRewardName, AreRewardNames}, Limits.{IsModel}}
use Rattle.mdp_rows.specs.Draft.{Draft, all_closed, choice_closed, state_opened, choice_opened, after_label, after_entry, finished, new_draft, has_choice, has_open_target}
use Rattle.mdp_rows.specs.{Sound.{IsSound}, declared.rule.RowRule.{RowRule}}
use Rattle.mdp_rows.proofs.Calls.Closes.{all_are_closed}
use Rattle.mdp_rows.proofs.SoundCalls.{new_draft-sound, all_closed-sound, choice_closed-sound, state_opened-sound, choice_opened-sound, after_label-sound, after_entry-sound, finished-sound}
use Rattle.mdp_drn.specs.declared.error.DrnKind.TheVariants as kind
use Rattle.mdp_drn.specs.Lines.{is_line_feed, all_but_last, last_part, whole_lines, open_line, lines_of, content, is_blank, is_comment, begins_with, without_blanks_before}
use Rattle.mdp_drn.specs.{Outcome.{◌>>=◌, refuse_if, Refusal, at_line_of}, Labels.{labels_in, begins_blank}}
use Rattle.mdp_drn.specs.Values.{value_of, from_numeral, each_reward, rewards_in, trimmed, is_comma}
use Rattle.mdp_drn.specs.Header.{Header, Next, AnyEntry, BlankLine, RewardNames, StateCount, ChoiceCount, Model, no_entries, header_line, announced, names_of, names_or_one, or_else}
use Rattle.mdp_drn.specs.Body.{Body, StateRead, EntryRead, judged, with_labels, begins_as, is_other_mark, is_rest_of_state, bracket_at, bracket_behind, has_digits, value_text, has_action}
use Rattle.mdp_drn.specs.Body.{state_read, action_read, entry_read, state_line, action_line, entry_line, model_line, is_state_line, is_action_line}
use Rattle.mdp_drn.specs.{BodyView.{IsOneLine}, DocumentView.{IsHeader, AreGiven, IsCounted}}
use Rattle.mdp_drn.specs.Reading.{Part, InHeader, InModel, Document, nothing_read, named, longest_line, begun, kept_line, judged_line, at_line, at_end_of, at_end, after_lines, has_choices}
use Rattle.mdp_drn.specs.Laws.{ReadsAsModel}
use Rattle.mdp_drn.proofs.{LinesRead.DraftCalls.{bound}, LinesRead.Contents.{content_plain, content_front}, LinesRead.HeaderKeeps.{header_keeps}}
use Rattle.mdp_drn.proofs.{LinesRead.LabelNames.{label_names, behind_plain}, LinesRead.RewardsFrom.{count-rewards}}
use Rattle.mdp_drn.proofs.ReadingLaws.LabelOrder.{one-done, not-refused, read-by, judged-is, line-is}

-- ---- lines

abbrev NoFeed : ℕ → Type 0
NoFeed b = is_line_feed b ≡ false

no_bytes : IsOneLine []
no_bytes = All-nil NoFeed

onto_first-plain : (x : ℕ) (parts : List (List ℕ)) → NoFeed x → All IsOneLine parts → All IsOneLine (onto_first x parts)
onto_first-plain x [] plain all = All-cons IsOneLine (x ∷ []) [] (All-cons NoFeed x [] plain no_bytes) (All-nil IsOneLine)
onto_first-plain x (part ∷ parts) plain all =
    All-cons IsOneLine (x ∷ part) parts (All-cons NoFeed x part plain (All-head IsOneLine part parts all)) (All-tail IsOneLine part parts all)

-- what stands between line feeds has none
parts-plain : (bytes : List ℕ) → All IsOneLine (slice_split is_line_feed bytes)
parts-plain [] = All-cons IsOneLine [] [] no_bytes (All-nil IsOneLine)
parts-plain (x ∷ xs) = by (is_line_feed x) refl (parts-plain xs)
  where
    by : (b : Bool) → is_line_feed x ≡ b → All IsOneLine (slice_split is_line_feed xs)
        → All IsOneLine (cond b ([] ∷ slice_split is_line_feed xs) (onto_first x (slice_split is_line_feed xs)))
    by true is all = All-cons IsOneLine [] (slice_split is_line_feed xs) no_bytes all
    by false is all = onto_first-plain x (slice_split is_line_feed xs) is all

whole-plain : (parts : List (List ℕ)) → All IsOneLine parts → All IsOneLine (all_but_last parts)
whole-plain [] all = All-nil IsOneLine
whole-plain (part ∷ []) all = All-nil IsOneLine
whole-plain (part ∷ next ∷ parts) all =
    All-cons IsOneLine part (all_but_last (next ∷ parts)) (All-head IsOneLine part (next ∷ parts) all) (whole-plain (next ∷ parts) (All-tail IsOneLine part (next ∷ parts) all))

last-plain : (parts : List (List ℕ)) → All IsOneLine parts → IsOneLine (last_part parts)
last-plain [] all = no_bytes
last-plain (part ∷ []) all = All-head IsOneLine part [] all
last-plain (part ∷ next ∷ parts) all = last-plain (next ∷ parts) (All-tail IsOneLine part (next ∷ parts) all)

lines-plain : (bytes : List ℕ) → All IsOneLine (lines_of bytes)
lines-plain bytes =
    All-append IsOneLine (whole_lines bytes) (cond (ltb 0 (length (open_line bytes))) (open_line bytes ∷ []) []) (whole-plain (slice_split is_line_feed bytes) (parts-plain bytes))
    (by (ltb 0 (length (open_line bytes))))
  where
    by : (b : Bool) → All IsOneLine (cond b (open_line bytes ∷ []) [])
    by true = All-cons IsOneLine (open_line bytes) [] (last-plain (slice_split is_line_feed bytes) (parts-plain bytes)) (All-nil IsOneLine)
    by false = All-nil IsOneLine

dropped-plain : (n : ℕ) (bytes : List ℕ) → IsOneLine bytes → IsOneLine (drop n bytes)
dropped-plain n bytes one = All-drop NoFeed n bytes one

-- ---- where the model begins

-- the one name where none is given
one_name : AreRewardNames (names_or_one [])
one_name = record {
  some = omega arith;
  few = omega arith;
  each = All-cons IsRewardName (45 ∷ []) [] refl (All-nil IsRewardName);
  different = refl;
  first = refl;
}

names-given : (names : Option (List (List ℕ))) → AreGiven names → AreRewardNames (names_or_one (or_else [] names))
names-given None given = one_name
names-given (Some []) given = one_name
names-given (Some (n ∷ ns)) given = given

abbrev IsSoundPart : Part → Type 0
IsSoundPart (InHeader header next) = IsHeader header next
IsSoundPart (InModel choices body) = IsSound body.draft

model-begins : (rule : RowRule) (header : Header) (states : Option ℕ) → header.states ≡ states → IsHeader header Model → IsSound (new_draft (announced header) rule (names_of header))
model-begins rule header None none is = absurd (let counted = is.states in subst (λ (o : Option ℕ). IsCounted Model o) none counted)
model-begins rule header (Some n) some is =
    let counted : IsCounted Model (Some n) = subst (λ (o : Option ℕ). IsCounted Model o) some is.states in
    subst (λ (k : ℕ). IsSound (new_draft k rule (names_of header))) (sym (ap (or_else 0) some))
    (new_draft-sound n rule (names_of header) counted.0 counted.1 (names-given header.names is.names))

begun-sound : (rule : RowRule) (header : Header) (next : Next) → IsHeader header next → IsSoundPart (begun rule header next)
begun-sound rule header Model is = model-begins rule header header.states refl is
begun-sound rule header AnyEntry is = is
begun-sound rule header BlankLine is = is
begun-sound rule header RewardNames is = is
begun-sound rule header StateCount is = is
begun-sound rule header ChoiceCount is = is

-- ---- what a line of the model says

-- one reward for each name
rewards-count : (models : ℕ) (inside : List ℕ) (rewards : List ℚ) → rewards_in models inside ≡ Ok rewards → length rewards ≡ models
unfolding rewards_in
rewards-count models inside rewards h = by (eqb (length (trimmed inside)) 0) (eqb (length texts) models) refl h
  where
    texts : List (List ℕ)
    texts = map trimmed (slice_split is_comma inside)

    by : (empty same : Bool) → eqb (length texts) models ≡ same → cond empty (Ok (replicate models (of_int (pos 0)))) (cond same (each_reward texts) (Err kind.Reward)) ≡ Ok rewards
        → length rewards ≡ models
    by true same is h = ap length (sym (one-done (replicate models (of_int (pos 0))) rewards h)) ∙ length-replicate models (of_int (pos 0))
    by false true is h = count-rewards texts rewards h ∙ eqb-true (length texts) models is
    by false false is h = absurd (not-refused _ rewards h)

record SaysState (models : ℕ) (x : StateRead) : Type 0 where
  rewards : length x.rewards ≡ models
  labels : All IsName x.labels

state_read-says : (d : Draft) (digits rest : List ℕ) (x : StateRead) → IsOneLine rest → state_read d digits rest ≡ Ok x → SaysState (length d.names) x
unfolding state_read
state_read-says d digits rest x one h =
    let shape = read-by (refuse_if kind.Shape (not (is_rest_of_state rest))) _ x h in
    let order = read-by (refuse_if kind.Order (not (eqb (number digits) (length d.closed)))) _ x shape.2 in
    let count = read-by (refuse_if kind.Count (leb d.announced (length d.closed))) _ x order.2 in
    let plain = read-by (refuse_if kind.Type (begins_as is_other_mark (without_blanks_before rest))) _ x count.2 in
    let bracket = read-by (bracket_at (without_blanks_before rest)) _ x plain.2 in
    let rewards = read-by (rewards_in (length d.names) bracket.0.0) _ x bracket.2 in
    let labels = read-by (labels_in bracket.0.1) _ x rewards.2 in
    let is : (let y : StateRead = record { rewards = rewards.0; labels = labels.0 } in y) ≡ x = let k = labels.2 in cc in
    subst (SaysState (length d.names)) is (record {
      rewards = rewards-count (length d.names) bracket.0.0 rewards.0 rewards.1;
      labels =
          label_names bracket.0.1 labels.0
          (behind_plain (without_blanks_before rest) (dropped-plain (prefix_len is_blank rest) rest one) bracket.0.0 bracket.0.1 bracket.1) labels.1;
    })

action_read-count : (is_chain : Bool) (d : Draft) (rest : List ℕ) (rewards : List ℚ) → action_read is_chain d rest ≡ Ok rewards → length rewards ≡ length d.names
unfolding action_read
action_read-count is_chain d rest x h =
    let under = read-by (refuse_if kind.Shape (not (is_some d.state))) _ x h in
    let inside = read-by (bracket_behind rest) _ x under.2 in
    let rewards = read-by (rewards_in (length d.names) inside.0) _ x inside.2 in
    let one = read-by (refuse_if kind.Choices (is_chain && has_action d)) _ x rewards.2 in
    ap length (sym (one-done rewards.0 x one.2)) ∙ rewards-count (length d.names) inside.0 rewards.0 rewards.1

numeral-within : (text : List ℕ) (v : ℚ) → numeral_of text ≡ Ok v → IsWithinLimit v
unfolding numeral_of
numeral-within text v h = by (terms_of (parts_of text)) (terms-all_within (parts_of text) (terms_of (parts_of text)) refl) h
  where
    by : (r : Result (ℕ × ℕ) NumeralError) → IfOk r AreWithinLimit → numeral.value_of r ≡ Ok v → IsWithinLimit v
    by (Ok p) is h = subst IsWithinLimit (one-done (ratio (pos p.0) p.1) v h) (value-within p is)
    by (Err e) is h = absurd (not-refused e v h)

value-limited : (text : List ℕ) (v : ℚ) → value_of text ≡ Ok v → IsWithinLimit v
unfolding value_of
value-limited text v h = by (begins_with (codes "-") text) h
  where
    plain : (r : Result ℚ NumeralError) → r ≡ numeral_of text → from_numeral r ≡ Ok v → IsWithinLimit v
    plain (Ok x) is h = numeral-within text v (sym is ∙ ap (λ (y : ℚ). Ok y) (one-done x v h))
    plain (Err e) is h = absurd (not-refused _ v h)

    by : (b : Bool) → cond b (Err kind.Negative) (from_numeral (numeral_of text)) ≡ Ok v → IsWithinLimit v
    by true h = absurd (not-refused _ v h)
    by false h = plain (numeral_of text) refl h

entry_read-within : (d : Draft) (text : List ℕ) (x : EntryRead) → entry_read d text ≡ Ok x → IsWithinLimit x.value
unfolding entry_read
entry_read-within d text x h =
    let digits = read-by (refuse_if kind.Shape (not (has_digits text))) _ x h in
    let value = read-by (value_text (without_blanks_before (behind_digits text))) _ x digits.2 in
    let under = read-by (refuse_if kind.Shape (not (has_choice d))) _ x value.2 in
    let inside = read-by (refuse_if kind.Target (leb d.announced (number (front_digits text)))) _ x under.2 in
    let once = read-by (refuse_if kind.Twice (has_open_target d (number (front_digits text)))) _ x inside.2 in
    let number_read = read-by (value_of value.0) _ x once.2 in
    subst (λ (y : EntryRead). IsWithinLimit y.value)
    (one-done (let y : EntryRead = record { target = number (front_digits text); value = number_read.0 } in y) x number_read.2) (value-limited value.0 number_read.0 number_read.1)

-- ---- a line of the model

with_labels-sound : (names : List (List ℕ)) (d e : Draft) → All IsName names → IsSound d → with_labels names d ≡ Ok e → IsSound e
with_labels-sound [] d e all sound h = subst IsSound (one-done d e h) sound
with_labels-sound (name ∷ names) d e all sound h =
    let given = bound (after_label d name) (with_labels names) e h in
    with_labels-sound names given.0 e (All-tail IsName name names all) (after_label-sound d given.0 name sound (All-head IsName name names all) given.1) given.2

drafted-sound : (b e : Body) → (let r : Result Body Refusal = Ok b in r) ≡ Ok e → IsSound b.draft → IsSound e.draft
drafted-sound b e h sound = subst (λ (x : Body). IsSound x.draft) (one-done b e h) sound

module _ (b e : Body) (line : ℕ) (sound : IsSound b.draft) where
  state-sound : (behind : List ℕ) → IsOneLine behind → state_line b line behind ≡ Ok e → IsSound e.draft
  state-sound behind one h =
      let closed = read-by (judged b line (all_closed b.draft)) _ e h in
      let read = read-by (at_line_of line (state_read closed.0 (front_digits behind) (behind_digits behind))) _ e closed.2 in
      let opened = read-by (judged b line (state_opened closed.0 read.0.rewards)) _ e read.2 in
      let labelled = read-by (judged b line (with_labels read.0.labels opened.0)) _ e opened.2 in
      let closes = judged-is b line (all_closed b.draft) closed.0 closed.1 in
      let says =
      state_read-says closed.0 (front_digits behind) (behind_digits behind) read.0 (dropped-plain (prefix_len is_ascii_digit behind) behind one)
      (line-is line (state_read closed.0 (front_digits behind) (behind_digits behind)) read.0 read.1) in
      let state =
      state_opened-sound closed.0 opened.0 read.0.rewards (all_are_closed b.draft closed.0 closes) (all_closed-sound b.draft closed.0 sound closes) says.rewards
      (judged-is b line (state_opened closed.0 read.0.rewards) opened.0 opened.1) in
      let names = with_labels-sound read.0.labels opened.0 labelled.0 says.labels state (judged-is b line (with_labels read.0.labels opened.0) labelled.0 labelled.1) in
      drafted-sound (record b { draft = labelled.0; state_line = line }) e labelled.2 names

  choice-sound : (rest : List ℕ) → action_line b line rest ≡ Ok e → IsSound e.draft
  choice-sound rest h =
      let closed = read-by (judged b line (choice_closed b.draft)) _ e h in
      let rewards = read-by (at_line_of line (action_read b.is_chain closed.0 rest)) _ e closed.2 in
      let opened = read-by (judged b line (choice_opened closed.0 rewards.0)) _ e rewards.2 in
      let choice =
      choice_opened-sound closed.0 opened.0 rewards.0 (choice_closed-sound b.draft closed.0 sound (judged-is b line (choice_closed b.draft) closed.0 closed.1))
      (action_read-count b.is_chain closed.0 rest rewards.0 (line-is line (action_read b.is_chain closed.0 rest) rewards.0 rewards.1))
      (judged-is b line (choice_opened closed.0 rewards.0) opened.0 opened.1) in
      drafted-sound (record b { draft = opened.0; action_line = line }) e opened.2 choice

  transition-sound : (text : List ℕ) → entry_line b line text ≡ Ok e → IsSound e.draft
  transition-sound text h =
      let read = read-by (at_line_of line (entry_read b.draft text)) _ e h in
      let added = read-by (judged b line (after_entry b.draft read.0.target read.0.value)) _ e read.2 in
      let entry =
      after_entry-sound b.draft added.0 read.0.target read.0.value sound (entry_read-within b.draft text read.0 (line-is line (entry_read b.draft text) read.0 read.1))
      (judged-is b line (after_entry b.draft read.0.target read.0.value) added.0 added.1) in
      drafted-sound (record b { draft = added.0 }) e added.2 entry

  line-sound : (text : List ℕ) → IsOneLine text → model_line b line text ≡ Ok e → IsSound e.draft
  unfolding model_line
  line-sound text one h = by (is_state_line text) (is_action_line text) h
    where
      by : (s a : Bool) → cond s (state_line b line (without_blanks_before (drop 5 text))) (cond a (action_line b line (drop 6 text)) (entry_line b line text)) ≡ Ok e → IsSound e.draft
      by true a h = state-sound (without_blanks_before (drop 5 text)) (dropped-plain (prefix_len is_blank (drop 5 text)) (drop 5 text) (dropped-plain 5 text one)) h
      by false true h = choice-sound (drop 6 text) h
      by false false h = transition-sound text h

-- ---- line after line

-- a line that is no comment, without blanks before it
kept-sound : (rule : RowRule) (line : ℕ) (text : List ℕ) (part after : Part) → IsOneLine text → begins_blank text ≡ false → is_comment text ≡ false → IsSoundPart part
    → kept_line rule line text part ≡ Ok after → IsSoundPart after
kept-sound rule line text (InHeader header next) after one blank comment is h =
    let read = read-by (at_line_of line (header_line next header text)) _ after h in
    subst IsSoundPart (one-done (begun rule read.0.0 read.0.1) after read.2)
    (begun-sound rule read.0.0 read.0.1
    (header_keeps next header text is one blank comment read.0.0 read.0.1 (line-is line (header_line next header text) read.0 read.1)))
kept-sound rule line text (InModel choices b) after one blank comment is h = by (eqb (length text) 0) h
  where
    by : (empty : Bool) → cond empty (Ok (InModel choices b)) (model_line b line text >>= λ read. Ok (InModel choices read)) ≡ Ok after → IsSoundPart after
    by true h = subst IsSoundPart (one-done (InModel choices b) after h) is
    by false h =
        let read = read-by (model_line b line text) _ after h in
        subst IsSoundPart (one-done (InModel choices read.0) after read.2) (line-sound b read.0 line is text one read.1)

line-keeps : (rule : RowRule) (d e : Document) (line : List ℕ) → IsOneLine line → IsSoundPart d.part → at_line rule d line ≡ Ok e → IsSoundPart e.part
unfolding at_line
line-keeps rule d e line one is h = by (ltb longest_line (length line)) h
  where
    parts : (p : Part) → (let r : Result Document Refusal = Ok (record { lines = named (d.lines + 1); part = p }) in r) ≡ Ok e → p ≡ e.part
    parts p h = ap (λ (x : Document). x.part) (one-done _ e h)

    comment : (b : Bool) → is_comment (content line) ≡ b → (p : Part) → cond b (Ok d.part) (kept_line rule (named (d.lines + 1)) (content line) d.part) ≡ Ok p → IsSoundPart p
    comment true known p h = subst IsSoundPart (one-done d.part p h) is
    comment false known p h = kept-sound rule (named (d.lines + 1)) (content line) d.part p (content_plain line one) (content_front line) known is h

    by : (long : Bool) → cond long (Err (record { kind = kind.LongLine; line = named (d.lines + 1) }))
        (judged_line rule (named (d.lines + 1)) (content line) d.part >>= λ p. Ok (record { lines = named (d.lines + 1); part = p })) ≡ Ok e → IsSoundPart e.part
    by true h = absurd (not-refused _ e h)
    by false h =
        let read = read-by (judged_line rule (named (d.lines + 1)) (content line) d.part) _ e h in
        subst IsSoundPart (parts read.0 read.2) (comment (is_comment (content line)) refl read.0 read.1)

lines-keep : (rule : RowRule) (lines : List (List ℕ)) (d e : Document) → All IsOneLine lines → IsSoundPart d.part → after_lines rule d lines ≡ Ok e → IsSoundPart e.part
lines-keep rule [] d e plain is h = subst (λ (x : Document). IsSoundPart x.part) (one-done d e h) is
lines-keep rule (line ∷ lines) d e plain is h =
    let first = read-by (at_line rule d line) _ e h in
    lines-keep rule lines first.0 e (All-tail IsOneLine line lines plain) (line-keeps rule d first.0 line (All-head IsOneLine line lines plain) is first.1) first.2

-- ---- the end

end-model : (line : ℕ) (part : Part) (m : Mdp) → IsSoundPart part → at_end_of line part ≡ Ok m → IsModel m
end-model line (InHeader header next) m is h = absurd (not-refused _ m h)
end-model line (InModel choices b) m is h =
    let closed = read-by (judged b line (all_closed b.draft)) _ m h in
    let counted = read-by (at_line_of line (refuse_if kind.Count (not (has_choices closed.0 choices)))) _ m closed.2 in
    let closes = judged-is b line (all_closed b.draft) closed.0 closed.1 in
    finished-sound closed.0 m (all_are_closed b.draft closed.0 closes) (all_closed-sound b.draft closed.0 is closes) (judged-is b line (finished closed.0) m counted.2)

nothing-kept : IsHeader no_entries AnyEntry
nothing-kept = record { names = tt; states = tt }

pub reads-as_model : ReadsAsModel
unfolding at_end
reads-as_model bytes rule m h =
    let read = read-by (after_lines rule nothing_read (lines_of bytes)) at_end m h in
    end-model (named (read.0.lines + 1)) read.0.part m (lines-keep rule (lines_of bytes) nothing_read read.0 (lines-plain bytes) nothing-kept read.1) read.2
