-- A model's labels stand in the order in which the lines of its states spell them first.
use Rattle.std.proofs.Common.{◌≡◌, ℕ, ◌+◌, Option, leb, Bool, true, false, not, cond, eqb, ltb, List, [], ◌∷◌, ◌++◌, length, drop, refl, sym, ap, subst, ◌∙◌, Result, Ok, Err, codes}
use Rattle.std.proofs.lemmas.List.Concat.{flat_map-cons}
use Rattle.std.specs.{List.{flat_map}, Str.{bytes_eq}}
use Rattle.mdp_spec.specs.Mdp.{Mdp}
use Rattle.mdp_num.specs.Digits.{front_digits, behind_digits, number}
use Rattle.mdp_rows.specs.Draft.{Draft, with_name, all_closed, choice_closed, state_opened, choice_opened, after_entry, finished}
use Rattle.mdp_rows.specs.{declared.error.RowsError.{RowsError}, declared.rule.RowRule.{RowRule}}
use Rattle.mdp_rows.specs.declared.error.RowsError.TheVariants as rows
use Rattle.mdp_drn.specs.{declared.error.DrnKind.{DrnKind}, Lines.{lines_of, content, is_comment, without_blanks_before}}
use Rattle.mdp_drn.specs.{Outcome.{◌>>=◌, refuse_if, Refusal, at_line_of}, Labels.{labels_in}, Values.{rewards_in}, Header.{Header, Next, header_line}}
use Rattle.mdp_drn.specs.HeaderView.{is_model}
use Rattle.mdp_drn.specs.Body.{Body, StateRead, judged, with_labels, begins_as, is_other_mark, is_rest_of_state, bracket_at, state_read}
use Rattle.mdp_drn.specs.Body.{action_read, entry_read, state_line, action_line, entry_line, model_line, is_state_line, is_action_line}
use Rattle.mdp_drn.specs.Reading.{Part, InHeader, InModel, Document, nothing_read, named, longest_line, begun, kept_line, judged_line, at_line, at_end_of, at_end, after_lines, has_choices}
use Rattle.mdp_drn.specs.Laws.{contents_of, or_none, labels_on, model_part, seen, ListsLabelsBySight}
use Rattle.mdp_drn.specs.declared.error.DrnKind.TheVariants as kind
use Rattle.mdp_drn.proofs.{LinesRead.HeaderKeeps.{begun_model, begun_other}, TextWritten.Bytes.{not_empty}}
use Rattle.mdp_drn.proofs.ReadingLaws.DraftLabels.{all_closed-labels, state_opened-labels, action-labels, entry-labels, labels-put, opened-state}
use Rattle.mdp_drn.proofs.ReadingLaws.HeaderEnds.{ends-at_model}

-- ---- what was answered with Ok

abbrev pub done : {A E : Type 0} → A → Result A E
done x = Ok x

abbrev pub refused : {A E : Type 0} → E → Result A E
refused k = Err k

pub one-done : {A E : Type 0} (x y : A) → done {E = E} x ≡ done y → x ≡ y
one-done x y h = cc

pub not-refused : {A E : Type 0} (k : E) (y : A) → refused {A = A} k ≡ Ok y → ⊥
not-refused k y h = absurd cc

pub read-by : {A B E : Type 0} (r : Result A E) (f : A → Result B E) (y : B) → (r >>= f) ≡ Ok y → (x : A) × (r ≡ Ok x) × (f x ≡ Ok y)
read-by (Ok x) f y e = (x, refl, e)
read-by (Err k) f y e = absurd (not-refused k y e)

pub judged-is : {A : Type 0} (b : Body) (line : ℕ) (r : Result A RowsError) (x : A) → judged b line r ≡ Ok x → r ≡ Ok x
judged-is b line (Ok y) x h = ap (λ z. Ok z) (one-done y x h)
judged-is b line (Err e) x h = absurd (not-refused _ x h)

pub line-is : {A : Type 0} (line : ℕ) (r : Result A DrnKind) (x : A) → at_line_of line r ≡ Ok x → r ≡ Ok x
line-is line (Ok y) x h = ap (λ z. Ok z) (one-done y x h)
line-is line (Err k) x h = absurd (not-refused _ x h)

-- ---- a line of the model

spelled-on : (d : Draft) (digits rest : List ℕ) (x : StateRead) → state_read d digits rest ≡ Ok x
    → or_none (bracket_at (without_blanks_before rest) >>= λ bracket. labels_in bracket.1) ≡ x.labels
unfolding state_read
spelled-on d digits rest x h =
    let shape = read-by (refuse_if kind.Shape (not (is_rest_of_state rest))) _ x h in
    let order = read-by (refuse_if kind.Order (not (eqb (number digits) (length d.closed)))) _ x shape.2 in
    let count = read-by (refuse_if kind.Count (leb d.announced (length d.closed))) _ x order.2 in
    let plain = read-by (refuse_if kind.Type (begins_as is_other_mark (without_blanks_before rest))) _ x count.2 in
    let bracket = read-by (bracket_at (without_blanks_before rest)) _ x plain.2 in
    let rewards = read-by (rewards_in (length d.names) bracket.0.0) _ x bracket.2 in
    let labels = read-by (labels_in bracket.0.1) _ x rewards.2 in
    ap (λ r. or_none (r >>= λ bracket. labels_in bracket.1)) bracket.1
    ∙ ap or_none labels.1
    ∙ ap (λ (r : Result StateRead DrnKind). elim r [ Ok s ↦ s.labels | Err e ↦ labels.0 ]) labels.2

drafted : (b e : Body) → (let r : Result Body Refusal = Ok b in r) ≡ Ok e → e.draft.labels ≡ b.draft.labels
drafted b e h = sym (ap (λ (x : Body). x.draft.labels) (one-done b e h))

module _ (b e : Body) (line : ℕ) where
  state-labels : (behind : List ℕ) → state_line b line behind ≡ Ok e
      → e.draft.labels ≡ seen b.draft.labels (or_none (bracket_at (without_blanks_before (behind_digits behind)) >>= λ bracket. labels_in bracket.1))
  state-labels behind h =
      let closed = read-by (judged b line (all_closed b.draft)) _ e h in
      let read = read-by (at_line_of line (state_read closed.0 (front_digits behind) (behind_digits behind))) _ e closed.2 in
      let opened = read-by (judged b line (state_opened closed.0 read.0.rewards)) _ e read.2 in
      let labelled = read-by (judged b line (with_labels read.0.labels opened.0)) _ e opened.2 in
      let made = judged-is b line (state_opened closed.0 read.0.rewards) opened.0 opened.1 in
      let before : Draft.labels opened.0 ≡ b.draft.labels =
      state_opened-labels closed.0 opened.0 read.0.rewards made ∙ all_closed-labels b.draft closed.0 (judged-is b line (all_closed b.draft) closed.0 closed.1) in
      let put = labels-put read.0.labels opened.0 labelled.0 (opened-state closed.0 opened.0 read.0.rewards made) (judged-is b line (with_labels read.0.labels opened.0) labelled.0 labelled.1) in
      let spelled = spelled-on closed.0 (front_digits behind) (behind_digits behind) read.0 (line-is line (state_read closed.0 (front_digits behind) (behind_digits behind)) read.0 read.1) in
      drafted (record b { draft = labelled.0; state_line = line }) e labelled.2 ∙ put
      ∙ ap (λ (known : List (List ℕ)). seen known read.0.labels) before
      ∙ ap (seen b.draft.labels) (sym spelled)

  choice-labels : (rest : List ℕ) → action_line b line rest ≡ Ok e → e.draft.labels ≡ b.draft.labels
  choice-labels rest h =
      let closed = read-by (judged b line (choice_closed b.draft)) _ e h in
      let rewards = read-by (at_line_of line (action_read b.is_chain closed.0 rest)) _ e closed.2 in
      let opened = read-by (judged b line (choice_opened closed.0 rewards.0)) _ e rewards.2 in
      drafted (record b { draft = opened.0; action_line = line }) e opened.2
      ∙ action-labels b.draft closed.0 opened.0 rewards.0 (judged-is b line (choice_closed b.draft) closed.0 closed.1) (judged-is b line (choice_opened closed.0 rewards.0) opened.0 opened.1)

  transition-labels : (text : List ℕ) → entry_line b line text ≡ Ok e → e.draft.labels ≡ b.draft.labels
  transition-labels text h =
      let read = read-by (at_line_of line (entry_read b.draft text)) _ e h in
      let added = read-by (judged b line (after_entry b.draft read.0.target read.0.value)) _ e read.2 in
      drafted (record b { draft = added.0 }) e added.2
      ∙ entry-labels b.draft added.0 read.0.target read.0.value (judged-is b line (after_entry b.draft read.0.target read.0.value) added.0 added.1)

  line-labels : (text : List ℕ) → model_line b line text ≡ Ok e → e.draft.labels ≡ seen b.draft.labels (labels_on text)
  unfolding model_line
  line-labels text = by (is_state_line text) (is_action_line text)
    where
      spelled : List (List ℕ)
      spelled = or_none (bracket_at (without_blanks_before (behind_digits (without_blanks_before (drop 5 text)))) >>= λ bracket. labels_in bracket.1)

      by : (s a : Bool) → cond s (state_line b line (without_blanks_before (drop 5 text))) (cond a (action_line b line (drop 6 text)) (entry_line b line text)) ≡ Ok e
          → e.draft.labels ≡ seen b.draft.labels
          (cond s (or_none (bracket_at (without_blanks_before (behind_digits (without_blanks_before (drop 5 text)))) >>= λ bracket. labels_in bracket.1)) [])
      by true a h = state-labels (without_blanks_before (drop 5 text)) h
      by false true h = choice-labels (drop 6 text) h
      by false false h = transition-labels text h

-- ---- line after line

abbrev labels_of : List (List ℕ) → List (List ℕ)
labels_of texts = flat_map labels_on texts

seen-append : (known xs ys : List (List ℕ)) → seen known (xs ++ ys) ≡ seen (seen known xs) ys
seen-append known [] ys = refl
seen-append known (x ∷ xs) ys = seen-append (with_name known x) xs ys

-- the labels that a part and the lines behind it come to
abbrev due : Part → List (List ℕ) → List (List ℕ)
due (InHeader header next) texts = seen [] (labels_of (model_part texts))
due (InModel choices b) texts = seen b.draft.labels (labels_of texts)

abbrev IsOpen : Part → Type 0
IsOpen (InHeader header next) = is_model next ≡ false
IsOpen (InModel choices b) = Unit {0}

record Goes (part : Part) (text : List ℕ) (after : Part) : Type 0 where
  is_open : IsOpen after
  labels : (texts : List (List ℕ)) → due part (text ∷ texts) ≡ due after texts

begun-goes : (rule : RowRule) (text : List ℕ) (header after : Header) (next last : Next) (b : Bool) → bytes_eq text (codes "@model") ≡ b → is_model last ≡ b
    → Goes (InHeader header next) text (begun rule after last)
begun-goes rule text header after next last true is ends =
    subst (Goes (InHeader header next) text) (sym (begun_model rule after last ends))
    (record { is_open = tt; labels = λ texts. ap (λ (b : Bool). seen [] (labels_of (cond b texts (model_part texts)))) is })
begun-goes rule text header after next last false is ends =
    subst (Goes (InHeader header next) text) (sym (begun_other rule after last ends))
    (record { is_open = ends; labels = λ texts. ap (λ (b : Bool). seen [] (labels_of (cond b texts (model_part texts)))) is })

header-goes : (rule : RowRule) (line : ℕ) (text : List ℕ) (header : Header) (next : Next) (after : Part) → is_model next ≡ false
    → kept_line rule line text (InHeader header next) ≡ Ok after → Goes (InHeader header next) text after
header-goes rule line text header next after is_open h =
    let read = read-by (at_line_of line (header_line next header text)) _ after h in
    let is = line-is line (header_line next header text) read.0 read.1 in
    let ends = ends-at_model next header text is_open read.0.0 read.0.1 is in
    subst (Goes (InHeader header next) text) (one-done (begun rule read.0.0 read.0.1) after read.2)
    (begun-goes rule text header read.0.0 next read.0.1 (bytes_eq text (codes "@model")) refl ends)

none-on : (text : List ℕ) → eqb (length text) 0 ≡ true → labels_on text ≡ []
none-on [] h = refl
none-on (x ∷ xs) h = let e : eqb (length (x ∷ xs)) 0 ≡ false = not_empty (length xs) in absurd cc

model-goes : (rule : RowRule) (line : ℕ) (text : List ℕ) (choices : Option ℕ) (b : Body) (after : Part)
    → kept_line rule line text (InModel choices b) ≡ Ok after → Goes (InModel choices b) text after
model-goes rule line text choices b after h = by (eqb (length text) 0) refl h
  where
    more : (known : List (List ℕ)) (texts : List (List ℕ)) → seen known (labels_of (text ∷ texts)) ≡ seen (seen known (labels_on text)) (labels_of texts)
    more known texts = ap (seen known) (flat_map-cons labels_on text texts) ∙ seen-append known (labels_on text) (labels_of texts)

    by : (empty : Bool) → eqb (length text) 0 ≡ empty
        → cond empty (Ok (InModel choices b)) (model_line b line text >>= λ read. Ok (InModel choices read)) ≡ Ok after → Goes (InModel choices b) text after
    by true is h =
        subst (Goes (InModel choices b) text) (one-done (InModel choices b) after h)
        (record { is_open = tt; labels = λ texts. more b.draft.labels texts ∙ ap (λ (names : List (List ℕ)). seen (seen b.draft.labels names) (labels_of texts)) (none-on text is) })
    by false is h =
        let read = read-by (model_line b line text) _ after h in
        subst (Goes (InModel choices b) text) (one-done (InModel choices read.0) after read.2)
        (record { is_open = tt; labels = λ texts. more b.draft.labels texts ∙ ap (λ (known : List (List ℕ)). seen known (labels_of texts)) (sym (line-labels b read.0 line text read.1)) })

kept-goes : (rule : RowRule) (line : ℕ) (text : List ℕ) (part after : Part) → IsOpen part → kept_line rule line text part ≡ Ok after → Goes part text after
kept-goes rule line text (InHeader header next) after is_open h = header-goes rule line text header next after is_open h
kept-goes rule line text (InModel choices b) after is_open h = model-goes rule line text choices b after h

-- no comment, or a comment, which changes nothing
record Leads (part : Part) (line : List ℕ) (after : Part) : Type 0 where
  is_open : IsOpen after
  labels : (lines : List (List ℕ)) → due part (contents_of (line ∷ lines)) ≡ due after (contents_of lines)

line-leads : (rule : RowRule) (d e : Document) (line : List ℕ) → IsOpen d.part → at_line rule d line ≡ Ok e → Leads d.part line e.part
unfolding at_line
line-leads rule d e line is_open h = by (ltb longest_line (length line)) h
  where
    n : ℕ
    n = named (d.lines + 1)

    parts : (p : Part) → (let r : Result Document Refusal = Ok (record { lines = named (d.lines + 1); part = p }) in r) ≡ Ok e → p ≡ e.part
    parts p h = ap (λ (x : Document). x.part) (one-done _ e h)

    comment : (b : Bool) → is_comment (content line) ≡ b → (p : Part) → cond b (Ok d.part) (kept_line rule (named (d.lines + 1)) (content line) d.part) ≡ Ok p → Leads d.part line p
    comment true is p h =
        subst (Leads d.part line) (one-done d.part p h)
        (record { is_open = is_open; labels = λ lines. ap (λ (b : Bool). due d.part (cond (not b) (content line ∷ contents_of lines) (contents_of lines))) is })
    comment false is p h =
        let g = kept-goes rule (named (d.lines + 1)) (content line) d.part p is_open h in
        record { is_open = g.is_open; labels = λ lines. ap (λ (b : Bool). due d.part (cond (not b) (content line ∷ contents_of lines) (contents_of lines))) is ∙ g.labels (contents_of lines) }

    by : (long : Bool) → cond long (Err (record { kind = kind.LongLine; line = named (d.lines + 1) }))
        (judged_line rule (named (d.lines + 1)) (content line) d.part >>= λ p. Ok (record { lines = named (d.lines + 1); part = p })) ≡ Ok e → Leads d.part line e.part
    by true h = absurd (not-refused _ e h)
    by false h =
        let read = read-by (judged_line rule (named (d.lines + 1)) (content line) d.part) _ e h in
        subst (Leads d.part line) (parts read.0 read.2) (comment (is_comment (content line)) refl read.0 read.1)

lines-lead : (rule : RowRule) (lines : List (List ℕ)) (d e : Document) → IsOpen d.part → after_lines rule d lines ≡ Ok e → due d.part (contents_of lines) ≡ due e.part []
lines-lead rule [] d e is_open h = ap (λ (x : Document). due x.part []) (one-done d e h)
lines-lead rule (line ∷ lines) d e is_open h =
    let first = read-by (at_line rule d line) _ e h in
    let l = line-leads rule d first.0 line is_open first.1 in
    l.labels lines ∙ lines-lead rule lines first.0 e l.is_open first.2

-- ---- the end

finished-labels : (d : Draft) (m : Mdp) → finished d ≡ Ok m → m.labels ≡ d.labels
finished-labels d m h = by (eqb (length d.closed) d.announced) h
  where
    by : (b : Bool) → cond b (Ok (record { names = d.names; labels = d.labels; states = d.closed })) (Err rows.Count) ≡ Ok m → m.labels ≡ d.labels
    by true h = sym (ap (λ (x : Mdp). x.labels) (one-done _ m h))
    by false h = absurd (not-refused _ m h)

end-labels : (line : ℕ) (part : Part) (m : Mdp) → at_end_of line part ≡ Ok m → m.labels ≡ due part []
end-labels line (InHeader header next) m h = absurd (not-refused _ m h)
end-labels line (InModel choices b) m h =
    let closed = read-by (judged b line (all_closed b.draft)) _ m h in
    let counted = read-by (at_line_of line (refuse_if kind.Count (not (has_choices closed.0 choices)))) _ m closed.2 in
    finished-labels closed.0 m (judged-is b line (finished closed.0) m counted.2) ∙ all_closed-labels b.draft closed.0 (judged-is b line (all_closed b.draft) closed.0 closed.1)

pub labels-by_sight : ListsLabelsBySight
unfolding at_end
labels-by_sight bytes rule m h =
    let read = read-by (after_lines rule nothing_read (lines_of bytes)) at_end m h in
    end-labels (named (read.0.lines + 1)) read.0.part m read.2 ∙ sym (lines-lead rule (lines_of bytes) nothing_read read.0 refl read.1)
