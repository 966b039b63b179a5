-- What lines come to where the lines have other numbers: the same, with these numbers.
use Rattle.std.proofs.Common.{◌≡◌, ℕ, suc, ◌+◌, Bool, true, false, not, cond, ltb, ◌==◌, List, [], ◌∷◌, length, drop, Result, Ok, Err, refl, ap, subst, sym, ◌∙◌, zero-add, arith}
use Rattle.mdp_num.specs.Digits.{front_digits, behind_digits}
use Rattle.mdp_rows.specs.Draft.{Draft, new_draft, all_closed, choice_closed, state_opened, choice_opened, after_entry, finished}
use Rattle.mdp_rows.specs.{declared.error.RowsError.{RowsError}, declared.rule.RowRule.{RowRule}}
use Rattle.mdp_rows.specs.declared.error.RowsError.TheVariants as rows
use Rattle.mdp_drn.specs.{declared.error.DrnKind.{DrnKind}, Lines.{content, is_comment, without_blanks_before}, Outcome.{◌>>=◌, refuse_if, Refusal, at_line_of}}
use Rattle.mdp_drn.specs.Header.{Header, Next, AnyEntry, BlankLine, RewardNames, StateCount, ChoiceCount, Model, header_line, is_chain, announced, names_of}
use Rattle.mdp_drn.specs.Body.{Body, line_of, kind_of, judged, with_labels, state_read, action_read, entry_read, state_line, action_line}
use Rattle.mdp_drn.specs.Body.{entry_line, model_line, is_state_line, is_action_line}
use Rattle.mdp_drn.specs.Reading.{Part, InHeader, InModel, Document, named, longest_line, begun, kept_line, judged_line, at_line, after_lines, at_end_of, at_end, has_choices}
use Rattle.mdp_drn.specs.declared.error.DrnKind.TheVariants as kind

-- refused or not, under other numbers
abbrev pub refusal-at : (ℕ → ℕ) → Refusal → Refusal
refusal-at f r = record r { line = f r.line }

abbrev pub result-at : {A B : Type 0} → (ℕ → ℕ) → (A → B) → Result A Refusal → Result B Refusal
result-at f g (Ok x) = Ok (g x)
result-at f g (Err r) = Err (refusal-at f r)

abbrev same : {A : Type 0} → A → A
same x = x

module _ {A B C : Type 0} (f : ℕ → ℕ) where
  pub bind-at : (r s : Result A Refusal) (k : A → Result B Refusal) (l : A → Result C Refusal) (g : B → C)
      → s ≡ result-at f same r → ((x : A) → l x ≡ result-at f g (k x)) → (s >>= l) ≡ result-at f g (r >>= k)
  bind-at r s k l g h rest = ap (λ (t : Result A Refusal). t >>= l) h ∙ by r
    where
      by : (r : Result A Refusal) → (result-at f same r >>= l) ≡ result-at f g (r >>= k)
      by (Ok x) = rest x
      by (Err e) = refl

cond-at : {A B : Type 0} (f : ℕ → ℕ) (g : A → B) (b : Bool) (r s : Result A Refusal) (t u : Result B Refusal) → t ≡ result-at f g r → u ≡ result-at f g s → cond b t u ≡ result-at f g (cond b r s)
cond-at f g true r s t u h k = h
cond-at f g false r s t u h k = k

at_line-at : {A : Type 0} (f : ℕ → ℕ) (line : ℕ) (r : Result A DrnKind) → at_line_of (f line) r ≡ result-at f same (at_line_of line r)
at_line-at f line (Ok x) = refl
at_line-at f line (Err k) = refl

-- ---- one line

module _ (f : ℕ → ℕ) where
  abbrev pub body-at : Body → Body
  body-at b = record b { state_line = f b.state_line; action_line = f b.action_line }

  abbrev pub part-at : Part → Part
  part-at (InHeader header next) = InHeader header next
  part-at (InModel choices b) = InModel choices (body-at b)

  line_of-at : (b : Body) (line : ℕ) (e : RowsError) → line_of (body-at b) (f line) e ≡ f (line_of b line e)
  line_of-at b line (rows.RowSum s c) = refl
  line_of-at b line (rows.RowWide s c) = refl
  line_of-at b line rows.Twice = refl
  line_of-at b line (rows.NoChoice s) = refl
  line_of-at b line rows.TooMany = refl
  line_of-at b line rows.Target = refl
  line_of-at b line rows.Large = refl
  line_of-at b line rows.Count = refl
  line_of-at b line rows.Memory = refl

  judged-at : {A : Type 0} (b : Body) (line : ℕ) (r : Result A RowsError) → judged (body-at b) (f line) r ≡ result-at f same (judged b line r)
  judged-at b line (Ok x) = refl
  judged-at b line (Err e) = ap (λ (n : ℕ). Err (record { kind = kind_of e; line = n })) (line_of-at b line e)

  module _ (b : Body) (line : ℕ) where
    state-at : (behind : List ℕ) → state_line (body-at b) (f line) behind ≡ result-at f body-at (state_line b line behind)
    state-at behind =
        bind-at f (judged b line (all_closed b.draft)) (judged (body-at b) (f line) (all_closed b.draft)) _ _ body-at (judged-at b line (all_closed b.draft)) (λ closed.
        bind-at f (at_line_of line (state_read closed (front_digits behind) (behind_digits behind)))
        (at_line_of (f line) (state_read closed (front_digits behind) (behind_digits behind))) _ _ body-at
        (at_line-at f line (state_read closed (front_digits behind) (behind_digits behind))) (λ x.
        bind-at f (judged b line (state_opened closed x.rewards)) (judged (body-at b) (f line) (state_opened closed x.rewards)) _ _ body-at
        (judged-at b line (state_opened closed x.rewards)) (λ opened.
        bind-at f (judged b line (with_labels x.labels opened)) (judged (body-at b) (f line) (with_labels x.labels opened)) _ _ body-at
        (judged-at b line (with_labels x.labels opened)) (λ labelled. refl))))

    action-at : (rest : List ℕ) → action_line (body-at b) (f line) rest ≡ result-at f body-at (action_line b line rest)
    action-at rest =
        bind-at f (judged b line (choice_closed b.draft)) (judged (body-at b) (f line) (choice_closed b.draft)) _ _ body-at (judged-at b line (choice_closed b.draft)) (λ closed.
        bind-at f (at_line_of line (action_read b.is_chain closed rest)) (at_line_of (f line) (action_read b.is_chain closed rest)) _ _ body-at
        (at_line-at f line (action_read b.is_chain closed rest)) (λ rewards.
        bind-at f (judged b line (choice_opened closed rewards)) (judged (body-at b) (f line) (choice_opened closed rewards)) _ _ body-at
        (judged-at b line (choice_opened closed rewards)) (λ opened. refl)))

    entry-at : (text : List ℕ) → entry_line (body-at b) (f line) text ≡ result-at f body-at (entry_line b line text)
    entry-at text =
        bind-at f (at_line_of line (entry_read b.draft text)) (at_line_of (f line) (entry_read b.draft text)) _ _ body-at (at_line-at f line (entry_read b.draft text)) (λ x.
        bind-at f (judged b line (after_entry b.draft x.target x.value)) (judged (body-at b) (f line) (after_entry b.draft x.target x.value)) _ _ body-at
        (judged-at b line (after_entry b.draft x.target x.value)) (λ draft. refl))

    model_line-at : (text : List ℕ) → model_line (body-at b) (f line) text ≡ result-at f body-at (model_line b line text)
    unfolding model_line
    model_line-at text =
        cond-at f body-at (is_state_line text) _ _ _ _ (state-at (without_blanks_before (drop 5 text)))
        (cond-at f body-at (is_action_line text) _ _ _ _ (action-at (drop 6 text)) (entry-at text))

  module _ (start : f 0 ≡ 0) where
    begun-at : (rule : RowRule) (header : Header) (next : Next) → begun rule header next ≡ part-at (begun rule header next)
    begun-at rule header Model =
        let draft : Draft = new_draft (announced header) rule (names_of header) in
        ap (λ (k : ℕ). InModel header.choices (record { draft = draft; is_chain = is_chain header.model_type; state_line = k; action_line = k })) (sym start)
    begun-at rule header AnyEntry = refl
    begun-at rule header BlankLine = refl
    begun-at rule header RewardNames = refl
    begun-at rule header StateCount = refl
    begun-at rule header ChoiceCount = refl

    pub kept_line-at : (rule : RowRule) (line : ℕ) (text : List ℕ) (part : Part) → kept_line rule (f line) text (part-at part) ≡ result-at f part-at (kept_line rule line text part)
    kept_line-at rule line text (InHeader header next) =
        bind-at f (at_line_of line (header_line next header text)) (at_line_of (f line) (header_line next header text)) _ _ part-at (at_line-at f line (header_line next header text))
        (λ read. ap (λ (p : Part). Ok p) (begun-at rule read.0 read.1))
    kept_line-at rule line text (InModel choices b) =
        cond-at f part-at (length text == 0) _ _ _ _ refl
        (ap (λ (r : Result Body Refusal). r >>= λ read. Ok (InModel choices read)) (model_line-at b line text) ∙ kept (model_line b line text))
      where
        kept : (r : Result Body Refusal) → (result-at f body-at r >>= λ read. Ok (InModel choices read)) ≡ result-at f part-at (r >>= λ read. Ok (InModel choices read))
        kept (Ok x) = refl
        kept (Err e) = refl

    judged_line-at : (rule : RowRule) (line : ℕ) (text : List ℕ) (part : Part) → judged_line rule (f line) text (part-at part) ≡ result-at f part-at (judged_line rule line text part)
    judged_line-at rule line text part = cond-at f part-at (is_comment text) _ _ _ _ refl (kept_line-at rule line text part)

  pub at_end-at : (line : ℕ) (part : Part) → at_end_of (f line) (part-at part) ≡ result-at f same (at_end_of line part)
  at_end-at line (InHeader header next) = refl
  at_end-at line (InModel choices b) =
      bind-at f (judged b line (all_closed b.draft)) (judged (body-at b) (f line) (all_closed b.draft)) _ _ same (judged-at b line (all_closed b.draft)) (λ closed.
      bind-at f (at_line_of line (refuse_if kind.Count (not (has_choices closed choices)))) (at_line_of (f line) (refuse_if kind.Count (not (has_choices closed choices)))) _ _ same
      (at_line-at f line (refuse_if kind.Count (not (has_choices closed choices)))) (λ counted. judged-at b line (finished closed)))

-- ---- line after line

abbrev pub doc : ℕ → Part → Document
doc n part = record { lines = n; part = part }

-- numbers of lines that were read, and how many lines may follow: the next lines have these numbers
pub record Renumbers (f : ℕ → ℕ) (R : ℕ → ℕ → ℕ → Type 0) : Type 0 where
  pub start : f 0 ≡ 0
  pub next : (m k l : ℕ) → R (suc m) k l → (f (named (k + 1)) ≡ named (l + 1)) × R m (named (k + 1)) (named (l + 1))

-- what two texts come to, the second under other numbers, where so many lines may follow
abbrev pub Matches : (ℕ → ℕ) → (ℕ → ℕ → Type 0) → Result Document Refusal → Result Document Refusal → Type 0
Matches f R (Ok d) (Ok e) = R d.lines e.lines × (e.part ≡ part-at f d.part)
Matches f R (Ok d) (Err s) = ⊥
Matches f R (Err r) (Ok e) = ⊥
Matches f R (Err r) (Err s) = s ≡ refusal-at f r

module _ (f : ℕ → ℕ) (R : ℕ → ℕ → ℕ → Type 0) (h : Renumbers f R) (rule : RowRule) where
  line-matches : (m k l : ℕ) (part : Part) (line : List ℕ) → R (suc m) k l → Matches f (R m) (at_line rule (doc k part) line) (at_line rule (doc l (part-at f part)) line)
  unfolding at_line
  line-matches m k l part line r =
      let n = h.next m k l r in
      by (ltb longest_line (length line)) (named (l + 1)) n.0 n.1 (judged_line rule (named (k + 1)) (content line) part) (judged_line rule (named (l + 1)) (content line) (part-at f part))
      (ap (λ (j : ℕ). judged_line rule j (content line) (part-at f part)) (sym n.0) ∙ judged_line-at f h.start rule (named (k + 1)) (content line) part)
    where
      by : (long : Bool) (j : ℕ) → f (named (k + 1)) ≡ j → R m (named (k + 1)) j → (r s : Result Part Refusal) → s ≡ result-at f (part-at f) r
          → Matches f (R m) (cond long (Err (record { kind = kind.LongLine; line = named (k + 1) })) (r >>= λ p. Ok (doc (named (k + 1)) p)))
          (cond long (Err (record { kind = kind.LongLine; line = j })) (s >>= λ p. Ok (doc j p)))
      by true j is more r s e = ap (λ (i : ℕ). record { kind = kind.LongLine; line = i }) (sym is)
      by false j is more r s e = subst (λ (t : Result Part Refusal). Matches f (R m) (r >>= λ p. Ok (doc (named (k + 1)) p)) (t >>= λ p. Ok (doc j p))) (sym e) (kept r)
        where
          kept : (r : Result Part Refusal) → Matches f (R m) (r >>= λ p. Ok (doc (named (k + 1)) p)) (result-at f (part-at f) r >>= λ p. Ok (doc j p))
          kept (Ok p) = (more, refl)
          kept (Err e) = refl

  pub lines-match : (m k l : ℕ) (part : Part) (lines : List (List ℕ)) → R (length lines + m) k l
      → Matches f (R m) (after_lines rule (doc k part) lines) (after_lines rule (doc l (part-at f part)) lines)
  lines-match m k l part [] r = (subst (λ (n : ℕ). R n k l) (zero-add m) r, refl)
  lines-match m k l part (line ∷ lines) r =
      let more : suc (length lines) + m ≡ suc (length lines + m) = omega arith in
      by (at_line rule (doc k part) line) (at_line rule (doc l (part-at f part)) line)
      (line-matches (length lines + m) k l part line (subst (λ (n : ℕ). R n k l) more r)) (λ i j p. lines-match m i j p lines)
    where
      by : (x y : Result Document Refusal) → Matches f (R (length lines + m)) x y
          → ((i j : ℕ) (p : Part) → R (length lines + m) i j → Matches f (R m) (after_lines rule (doc i p) lines) (after_lines rule (doc j (part-at f p)) lines))
          → Matches f (R m) (x >>= λ d. after_lines rule d lines) (y >>= λ d. after_lines rule d lines)
      by (Ok d) (Ok e) w rest =
          subst (λ (p : Part). Matches f (R m) (after_lines rule d lines) (after_lines rule (doc e.lines p) lines)) (sym w.1) (rest d.lines e.lines d.part w.0)
      by (Ok d) (Err s) w rest = absurd w
      by (Err r) (Ok e) w rest = absurd w
      by (Err r) (Err s) w rest = w

  -- a whole text, where one more number is left for the end
  pub outcome-at : (k l : ℕ) (part : Part) (lines : List (List ℕ)) → R (length lines + 1) k l
      → (after_lines rule (doc l (part-at f part)) lines >>= at_end) ≡ result-at f same (after_lines rule (doc k part) lines >>= at_end)
  unfolding at_end
  outcome-at k l part lines r = by (after_lines rule (doc k part) lines) (after_lines rule (doc l (part-at f part)) lines) (lines-match 1 k l part lines r)
    where
      by : (x y : Result Document Refusal) → Matches f (R 1) x y → (y >>= at_end) ≡ result-at f same (x >>= at_end)
      by (Ok d) (Ok e) w =
          let n = h.next 0 d.lines e.lines w.0 in
          ap (at_end_of (named (e.lines + 1))) w.1 ∙ ap (λ (j : ℕ). at_end_of j (part-at f d.part)) (sym n.0) ∙ at_end-at f (named (d.lines + 1)) d.part
      by (Ok d) (Err s) w = absurd w
      by (Err r) (Ok e) w = absurd w
      by (Err r) (Err s) w = ap (λ (q : Refusal). Err q) w
