-- A refusal names the first line that breaks a rule.
use Rattle.std.proofs.Common.{◌≡◌, ℕ, zero, suc, ◌+◌, ◌-◌, ◌<◌, ◌≤◌, ◌^◌, ◌⊎◌, inl, inr, Bool, true, false, not, cond, eqb, ltb, ◌&&◌, ◌||◌}
use Rattle.std.proofs.Common.{List, [], ◌∷◌, ◌++◌, length, drop, Option, Some, None, is_some, Result, Ok, Err, refl, sym, ap, ap₂, subst, ◌∙◌, arith}
use Rattle.std.proofs.{lemmas.Bool.{lt-ltb}, lemmas.List.{length-append}}
use Rattle.std.specs.{Prelude.{codes}, List.{position_or_len, before_first, after_first}, Option.{option_and_then, option_map}, Str.{bytes_eq}}
use Rattle.mdp_num.specs.Canonical.{canonical_of}
use Rattle.mdp_text.specs.{declared.error.CertKind.{CertKind}, declared.error.Refusal.{Refusal}, declared.init.Init.{Init}}
use Rattle.mdp_text.specs.declared.init.Init.TheVariants.{Missing, Start}
use Rattle.mdp_text.specs.Lines.{◌>>=◌, refuse_if, or_refused, is_line, is_line_feed, Place, place, next_line, line_by, nothing_behind}
use Rattle.mdp_text.specs.{Words.{words, first_of, begins_with, words_behind, whole_of, whole_at, frac_at}, Spelling.{line, end_text}}
use Rattle.mdp_text.specs.Heads.{states_at, init_parse, init_of, given_at, valued_at, start_at}
use Rattle.mdp_text.specs.declared.error.CertKind.TheVariants as kind
use Rattle.mdp_cert.specs.{declared.version.Version.{Version}, declared.version.Version.TheVariants.{One, Two}, declared.flow_line.FlowLine.{FlowLine}}
use Rattle.mdp_cert.specs.{declared.flow_line.FlowLine.TheVariants.{Keep, Send}, declared.floor_line.FloorLine.{FloorLine}}
use Rattle.mdp_cert.specs.Cert.{PlainClaim, upper, reach, until, reward, mean, witness, may_be_infinite, is_witness, is_next, is_next_flow, PlainBody, bounds, Certificate}
use Rattle.mdp_cert.specs.Listed.{Listed}
use Rattle.mdp_cert.specs.Witness.{mark_text, mark_at, keep_at, kept_in, flow_in, flow_at, flow_line_at, flow_listed, flow_body, floor_line_at, floor_listed, floor_body}
use Rattle.mdp_cert.specs.{Runs.{Columns, run, single, entries_of}, Claims.{fraction_value, reward_value}, Entries.{bound_columns, policy_columns, mean_columns}}
use Rattle.mdp_cert.specs.{Spelling.{version_text}, Reading.{version_at, claim_of, claim_at, init_at, CertHead, head_from, entry_at, state_at, run_at}}
use Rattle.mdp_cert.specs.Reading.{is_same, line_of_states, longest_at, run_in, onto_run, runs_from, entries_from}
use Rattle.mdp_cert.specs.Reading.{listed_at, before_others, listed_from, listed_to_end, entries_to_end, policy_body, reward_body, mean_body, spread_at, body_from, outcome}
use Rattle.mdp_cert.specs.Laws.{first_lines, LacksAtMost}
use Rattle.mdp_rows.specs.declared.dir.Dir.TheVariants.{Max, Min}
use Rattle.mdp_claims.specs.declared.subsystem.Flow.{Flow}
use Rattle.mdp_text.proofs.{Cuts.{guard_ok}, Feeds.{bind_ok, ok-is, line-found, line-again}, States.{states-number, states-range}}
use Rattle.mdp_text.proofs.HeadLines.{with-claim, with-states}
use Rattle.mdp_cert.proofs.{Numbered.{init-state, init-value, init-inside, start-state, start-inside}, OneByOne.{enough}}
use Rattle.mdp_cert.proofs.Parts.{whole, whole-end, whole-body, whole-head}

abbrev pub missing : ℕ → Refusal
missing n = record { kind = kind.End; line = n }

pub bind_err : {A B : Type 0} (r : Result A Refusal) (f : A → Result B Refusal) (e : Refusal) → (r >>= f) ≡ Err e → (r ≡ Err e) ⊎ ((x : A) × (r ≡ Ok x) × (f x ≡ Err e))
bind_err (Ok x) f e h = inr (x, refl, h)
bind_err (Err d) f e h = inl cc

-- ---- the first lines

-- the first j lines from a place on
abbrev pub cut : ℕ → Place → Place
cut j p = place p.line (first_lines j p.rest)

guard_err : {A : Type 0} (b : Bool) (x : A) (r d : Refusal) → cond b (Ok x) (Err r) ≡ Err d → (b ≡ false) × (r ≡ d)
guard_err true x r d e = absurd cc
guard_err false x r d e = (refl, cc)

cut-line : (p : Place) (t : List ℕ) (q : Place) → next_line p ≡ Ok (t, q) → (i : ℕ) → first_lines (suc i) p.rest ≡ line t ++ first_lines i q.rest
unfolding next_line first_lines
cut-line p t q e i =
    let bytes = p.rest in
    let g = guard_ok (ltb (position_or_len is_line_feed bytes) (length bytes)) (before_first is_line_feed bytes, place (p.line + 1) (after_first is_line_feed bytes)) (t, q) (missing p.line) e in
    let front : before_first is_line_feed bytes ≡ t = ap (λ (r : List ℕ × Place). r.0) g.1 in
    let back : after_first is_line_feed bytes ≡ q.rest = ap (λ (r : List ℕ × Place). r.1.rest) g.1 in
    ap (λ (b : Bool). cond b (line (before_first is_line_feed bytes) ++ first_lines i (after_first is_line_feed bytes)) bytes) g.0 ∙ ap₂ (λ (x y : List ℕ). line x ++ first_lines i y) front back

pub line-cut : (p : Place) (t : List ℕ) (q : Place) → next_line p ≡ Ok (t, q) → (i : ℕ) → next_line (cut (suc i) p) ≡ Ok (t, cut i q)
line-cut p t q e i =
    let l = line-found p t q e in
    ap (λ (bytes : List ℕ). next_line (place p.line bytes)) (cut-line p t q e i) ∙ line-again p.line t (first_lines i q.rest) l.free
    ∙ ap (λ (n : ℕ). let r : Result (List ℕ × Place) Refusal = Ok (t, place n (first_lines i q.rest)) in r) (sym l.number)

pub line-missing : (p : Place) (r : Refusal) → next_line p ≡ Err r → (missing p.line ≡ r) × ((i : ℕ) → cut (suc i) p ≡ p)
unfolding next_line first_lines
line-missing p r e =
    let bytes = p.rest in
    let g = guard_err (ltb (position_or_len is_line_feed bytes) (length bytes)) (before_first is_line_feed bytes, place (p.line + 1) (after_first is_line_feed bytes)) (missing p.line) r e in
    (g.1, λ i. ap (place p.line) (ap (λ (b : Bool). cond b (line (before_first is_line_feed bytes) ++ first_lines i (after_first is_line_feed bytes)) bytes) g.0))

pub none-cut : (p : Place) → next_line (cut 0 p) ≡ Err (missing p.line)
unfolding next_line first_lines
none-cut p = refl

-- ---- readers, which read line after line from a place on

abbrev pub Reader : Type 0 → Type 0
Reader A = Place → Result (A × Place) Refusal

-- the refused line is the first one that breaks a rule
pub record Broken {A : Type 0} (g : Reader A) (p : Place) (r : Refusal) : Type 0 where
  pub at : ℕ
  pub number : r.line ≡ p.line + at
  pub before : g (cut at p) ≡ Err (missing (p.line + at))
  pub behind : (j : ℕ) → g (cut (suc at + j) p) ≡ Err r

-- what is read, and the lines of which it is read
pub record Taken {A : Type 0} (g : Reader A) (p : Place) (x : A) (q : Place) : Type 0 where
  pub lines : ℕ
  pub number : q.line ≡ p.line + lines
  pub again : (j : ℕ) → g (cut (lines + j) p) ≡ Ok (x, cut j q)

pub record Cuts {A : Type 0} (g : Reader A) : Type 0 where
  pub read : (p : Place) (x : A) (q : Place) → g p ≡ Ok (x, q) → Taken g p x q
  pub broken : (p : Place) (r : Refusal) → g p ≡ Err r → Broken g p r

-- nothing is read
pub done : {A : Type 0} (x : A) → Cuts (λ p. let r : Result (A × Place) Refusal = Ok (x, p) in r)
done {A} x = record {
  read = λ p y q e.
      (let same = ok-is (x, p) (y, q) e in
      let z : p.line ≡ p.line + 0 = omega arith in
      let at : p ≡ q = ap (λ (r : A × Place). r.1) same in
      record {
        lines = 0;
        number = ap (λ (r : Place). r.line) (sym at) ∙ z;
        again =
            λ j. (let none : 0 + j ≡ j = omega arith in rw none (ap₂ (λ (u : A) (v : Place). let r : Result (A × Place) Refusal = Ok (u, cut j v) in r) (ap (λ (r : A × Place). r.0) same) at));
      });
  broken = λ p r e. absurd cc;
}

-- a refusal is of line n
abbrev pub Judges : {X : Type 0} → ℕ → Result X Refusal → Type 0
Judges n j = (r : Refusal) → j ≡ Err r → r.line ≡ n

abbrev said-at : {A : Type 0} → Place → A → Result (A × Place) Refusal
said-at q x = Ok (x, q)

-- one line, whose refusals are of that line
pub lined : {A : Type 0} (judge : ℕ → List ℕ → Result A Refusal) → ((n : ℕ) (text : List ℕ) → Judges n (judge n text)) → Cuts (line_by judge)
lined {A} judge judges = record {
  read = λ p x q e.
      (let one = bind_ok (next_line p) (λ next. judge p.line next.0 >>= λ said. Ok (said, next.1)) (x, q) e in
      let two = bind_ok (judge p.line one.0.0) (λ said. Ok (said, one.0.1)) (x, q) one.2 in
      let same = ok-is (two.0, one.0.1) (x, q) two.2 in
      let l = line-found p one.0.0 one.0.1 one.1 in
      let at : one.0.1 ≡ q = ap (λ (r : A × Place). r.1) same in
      record {
        lines = 1;
        number = ap (λ (r : Place). r.line) (sym at) ∙ l.number;
        again = λ j. (let more : 1 + j ≡ suc j = omega arith in
            rw (more, line-cut p one.0.0 one.0.1 one.1 j, two.1) (ap₂ (λ (u : A) (v : Place). let r : Result (A × Place) Refusal = Ok (u, cut j v) in r) (ap (λ (r : A × Place). r.0) same) at));
      });
  broken = λ p r e. elim (bind_err (next_line p) (λ next. judge p.line next.0 >>= λ said. Ok (said, next.1)) r e) [
    | inl lost ↦ absent p r lost
    | inr got ↦ refused_by p r got.0.0 got.0.1 got.1 got.2
  ];
}
  where
    none : (p : Place) → line_by judge (cut 0 p) ≡ Err (missing (p.line + 0))
    none p = let z : p.line + 0 ≡ p.line = omega arith in rw (none-cut p, z) refl

    absent : (p : Place) (r : Refusal) → next_line p ≡ Err r → Broken (line_by judge) p r
    absent p r lost =
        let m = line-missing p r lost in
        let z : p.line ≡ p.line + 0 = omega arith in
        record {
          at = 0;
          number = ap (λ (x : Refusal). x.line) (sym m.0) ∙ z;
          before = none p;
          behind =
              λ j. (let one : suc 0 + j ≡ suc j = omega arith in rw one
              (ap (line_by judge) (m.1 j) ∙ ap (λ (x : Result (List ℕ × Place) Refusal). x >>= λ next. judge p.line next.0 >>= λ said. Ok (said, next.1)) lost));
        }

    refused_by : (p : Place) (r : Refusal) (t : List ℕ) (q : Place) → next_line p ≡ Ok (t, q) → (judge p.line t >>= said-at q) ≡ Err r → Broken (line_by judge) p r
    refused_by p r t q got lost =
        let refused : judge p.line t ≡ Err r = (elim (bind_err (judge p.line t) (said-at q) r lost) [ inl h ↦ h | inr h ↦ absurd (apart _ r h.2) ]) in
        let z : p.line ≡ p.line + 0 = omega arith in
        record {
          at = 0;
          number = judges p.line t r refused ∙ z;
          before = none p;
          behind = λ j. (let one : suc 0 + j ≡ suc j = omega arith in rw (one, line-cut p t q got j, refused) refl);
        }
      where
        apart : (x : A × Place) (d : Refusal) → (let y : Result (A × Place) Refusal = Ok x in y) ≡ Err d → ⊥
        apart x d e = absurd cc

-- one reader after another
pub next : {A B : Type 0} (g : Reader A) (f : A → Reader B) → Cuts g → ((x : A) → Cuts (f x)) → Cuts (λ p. g p >>= λ x. f x.0 x.1)
next {A} {B} g f c d = record {
  read = λ p y q e.
      (let one = bind_ok (g p) (λ x. f x.0 x.1) (y, q) e in
      let s = c.read p one.0.0 one.0.1 one.1 in
      let t = (d one.0.0).read one.0.1 y q one.2 in
      record {
        lines = s.lines + t.lines;
        number = omega (arith, s.number, t.number);
        again = λ j. (let more : s.lines + t.lines + j ≡ s.lines + (t.lines + j) = omega arith in rw (more, s.again (t.lines + j)) (t.again j));
      });
  broken = λ p r e. elim (bind_err (g p) (λ x. f x.0 x.1) r e) [ inl lost ↦ first p r lost | inr got ↦ second p r got.0.0 got.0.1 got.1 got.2 ];
}
  where
    first : (p : Place) (r : Refusal) → g p ≡ Err r → Broken (λ p. g p >>= λ x. f x.0 x.1) p r
    first p r lost = let b = c.broken p r lost in record { at = b.at; number = b.number; before = rw b.before refl; behind = λ j. rw (b.behind j) refl }

    second : (p : Place) (r : Refusal) (x : A) (q : Place) → g p ≡ Ok (x, q) → f x q ≡ Err r → Broken (λ p. g p >>= λ x. f x.0 x.1) p r
    second p r x q got lost =
        let s = c.read p x q got in
        let b = (d x).broken q r lost in
        let line-is : q.line + b.at ≡ p.line + (s.lines + b.at) = omega (arith, s.number) in
        record {
          at = s.lines + b.at;
          number = b.number ∙ line-is;
          before = rw (s.again b.at) (b.before ∙ ap (λ (n : ℕ). let y : Result (B × Place) Refusal = Err (missing n) in y) line-is);
          behind = λ j. (let more : suc (s.lines + b.at) + j ≡ s.lines + (suc b.at + j) = omega arith in rw (more, s.again (suc b.at + j)) (b.behind j));
        }

pub mapped : {A B : Type 0} (g : Reader A) (f : A → B) → Cuts g → Cuts (λ p. g p >>= λ x. let r : Result (B × Place) Refusal = Ok (f x.0, x.1) in r)
mapped g f c = next g (λ x p. Ok (f x, p)) c (λ x. done (f x))

-- a reader that reads only where lines are due
pub where-due : {A : Type 0} (b : Bool) (g : Reader A) (x : A) → Cuts g → Cuts (λ p. cond b (g p) (Ok (x, p)))
where-due true g x c = c
where-due false g x c = done x

-- ---- refusals of one line

or-judges : {X : Type 0} (why : CertKind) (n : ℕ) (o : Option X) → Judges n (or_refused why n o)
or-judges why n None = λ r e. (let p : (let q : Refusal = record { kind = why; line = n } in q) ≡ r = cc in ap (λ (x : Refusal). x.line) (sym p))
or-judges why n (Some x) = λ r e. absurd cc

cond-judges : {X : Type 0} (why : CertKind) (n : ℕ) (b : Bool) (x : X) → Judges n (let q : Result X Refusal = cond b (Ok x) (Err (record { kind = why; line = n })) in q)
cond-judges why n false x = λ r e. (let p : (let q : Refusal = record { kind = why; line = n } in q) ≡ r = cc in ap (λ (x : Refusal). x.line) (sym p))
cond-judges why n true x = λ r e. absurd cc

err-judges : {X : Type 0} (why : CertKind) (n : ℕ) → Judges {X = X} n (Err (record { kind = why; line = n }))
err-judges why n = λ r e. (let p : (let q : Refusal = record { kind = why; line = n } in q) ≡ r = cc in ap (λ (x : Refusal). x.line) (sym p))

refuse-judges : (why : CertKind) (n : ℕ) (b : Bool) → Judges n (refuse_if why n b)
refuse-judges why n true = err-judges why n
refuse-judges why n false = λ r e. absurd cc

ok-judges : {X : Type 0} (n : ℕ) (x : X) → Judges n (let q : Result X Refusal = Ok x in q)
ok-judges n x = λ r e. absurd cc

then-judges : {X Y : Type 0} (n : ℕ) (j : Result X Refusal) (f : X → Result Y Refusal) → Judges n j → ((x : X) → Judges n (f x)) → Judges n (j >>= f)
then-judges n (Ok x) f h c = c x
then-judges n (Err d) f h c = λ r e. h r (let p : d ≡ r = cc in rw p refl)

behind-judges : (due : List ℕ) (count n : ℕ) (text : List ℕ) → Judges n (words_behind due count n text)
unfolding words_behind
behind-judges due count n text = cond-judges kind.Shape n _ (drop 1 (words text))

whole-judges : (n : ℕ) (word : List ℕ) → Judges n (whole_at n word)
unfolding whole_at
whole-judges n word = or-judges kind.Number n (whole_of word)

frac-judges : (n : ℕ) (word : List ℕ) → Judges n (frac_at n word)
unfolding frac_at
frac-judges n word = or-judges kind.Number n (canonical_of word)

version-judges : (n : ℕ) (text : List ℕ) → Judges n (version_at n text)
unfolding version_at
version-judges n text = by (bytes_eq text (version_text One)) (bytes_eq text (version_text Two))
  where
    by : (b c : Bool) → Judges n (let r : Result Version Refusal = cond b (Ok One) (cond c (Ok Two) (Err (record { kind = kind.Version; line = n }))) in r)
    by true c = ok-judges n One
    by false c = cond-judges kind.Version n c Two

claim-judges : (n : ℕ) (text : List ℕ) → Judges n (claim_at n text)
unfolding claim_at
claim-judges n text = or-judges kind.Claim n (claim_of text)

states-judges : (n : ℕ) (text : List ℕ) → Judges n (states_at n text)
unfolding states_at
states-judges n text =
    then-judges n (words_behind (codes "states") 1 n text) (states-number n) (behind-judges (codes "states") 1 n text) (λ behind.
    then-judges n (whole_at n (first_of behind)) (states-range n) (whole-judges n (first_of behind)) (λ states.
    then-judges n (refuse_if kind.Count n ((eqb states 0) || ltb (2 ^ 20) states)) (λ range. Ok states) (refuse-judges kind.Count n _) (λ range. ok-judges n states)))

given-judges : (infinite : Bool) (states n : ℕ) (text : List ℕ) → Judges n (given_at infinite states n text)
unfolding given_at
given-judges infinite states n text =
    then-judges n (words_behind (codes "init") 2 n text) (init-state infinite states n) (behind-judges (codes "init") 2 n text) (λ behind.
    then-judges n (whole_at n (first_of behind)) (init-value infinite states n behind) (whole-judges n (first_of behind)) (λ state.
    then-judges n (or_refused kind.Number n (init_parse infinite (first_of (drop 1 behind)))) (init-inside states n state) (or-judges kind.Number n _) (λ value.
    then-judges n (refuse_if kind.Count n (not (ltb state states))) (λ inside. Ok (init_of state value)) (refuse-judges kind.Count n _) (λ inside. ok-judges n (init_of state value)))))

valued-judges : (infinite : Bool) (states n : ℕ) (text : List ℕ) → Judges n (valued_at infinite states n text)
unfolding valued_at
valued-judges infinite states n text = by (bytes_eq text (codes "init -"))
  where
    by : (b : Bool) → Judges n (let q : Result Init Refusal = cond b (Ok Missing) (given_at infinite states n text) in q)
    by true = ok-judges n Missing
    by false = given-judges infinite states n text

start-judges : (states n : ℕ) (text : List ℕ) → Judges n (start_at states n text)
unfolding start_at
start-judges states n text =
    then-judges n (words_behind (codes "init") 1 n text) (start-state states n) (behind-judges (codes "init") 1 n text) (λ behind.
    then-judges n (whole_at n (first_of behind)) (start-inside states n) (whole-judges n (first_of behind)) (λ state.
    then-judges n (refuse_if kind.Count n (not (ltb state states))) _ (refuse-judges kind.Count n _) (λ inside. ok-judges n (Start state))))

init-judges : (claim : PlainClaim) (states n : ℕ) (text : List ℕ) → Judges n (init_at claim states n text)
init-judges claim states n text = by (is_witness claim)
  where
    by : (b : Bool) → Judges n (cond b (start_at states n text) (valued_at (may_be_infinite claim) states n text))
    by true = start-judges states n text
    by false = valued-judges (may_be_infinite claim) states n text

-- ---- the lines of states

module _ {A : Type 0} (k : Columns A) (states : ℕ) where
  entry-judges : (n : ℕ) (ws : List (List ℕ)) → Judges n (entry_at k n ws)
  unfolding entry_at
  entry-judges n ws = or-judges kind.Number n (k.parse ws)

  state-judges : (due n : ℕ) (text : List ℕ) → Judges n (state_at k due n text)
  unfolding state_at
  state-judges due n text =
      then-judges n (words_behind (codes "state") (1 + k.width) n text) _ (behind-judges (codes "state") (1 + k.width) n text) (λ behind.
      then-judges n (whole_at n (first_of behind)) _ (whole-judges n (first_of behind)) (λ state.
      then-judges n (entry_at k n (drop 1 behind)) _ (entry-judges n (drop 1 behind)) (λ x.
      then-judges n (refuse_if kind.Count n (not (eqb state due))) _ (refuse-judges kind.Count n _) (λ order. ok-judges n (single x)))))

  run-judges : (due n : ℕ) (text : List ℕ) → Judges n (run_at k states due n text)
  unfolding run_at
  run-judges due n text =
      then-judges n (words_behind (codes "run") (2 + k.width) n text) _ (behind-judges (codes "run") (2 + k.width) n text) (λ behind.
      then-judges n (whole_at n (first_of behind)) _ (whole-judges n (first_of behind)) (λ first.
      then-judges n (whole_at n (first_of (drop 1 behind))) _ (whole-judges n (first_of (drop 1 behind))) (λ last.
      then-judges n (entry_at k n (drop 1 (drop 1 behind))) _ (entry-judges n (drop 1 (drop 1 behind))) (λ x.
      then-judges n (refuse_if kind.Count n (not (eqb first due) || not (ltb first last) || not (ltb last states))) _ (refuse-judges kind.Count n _)
      (λ order. ok-judges n (run x (last - first)))))))

  line-judges : (due n : ℕ) (text : List ℕ) → Judges n (line_of_states k states due n text)
  line-judges due n text = by (begins_with (codes "run") (words text))
    where
      by : (b : Bool) → Judges n (cond b (run_at k states due n text) (state_at k due n text))
      by true = run-judges due n text
      by false = state-judges due n text

  run-in-judges : (v : Version) (due : ℕ) (before : Option A) (n : ℕ) (text : List ℕ) → Judges n (run_in v k states due before n text)
  unfolding longest_at
  run-in-judges One due before n text = state-judges due n text
  run-in-judges Two due before n text =
      then-judges n (line_of_states k states due n text) _ (line-judges due n text) (λ said.
      then-judges n (refuse_if kind.Run n (is_same k before said.entry)) _ (refuse-judges kind.Run n _) (λ longest. ok-judges n said))

  runs-cuts : (most : ℕ) (v : Version) (due : ℕ) (before : Option A) → Cuts (runs_from most v k states due before)
  unfolding runs_from
  runs-cuts zero v due before = done []
  runs-cuts (suc most) v due before =
      where-due (ltb due states) (λ p. line_by (run_in v k states due before) p >>= λ said. onto_run said.0 (runs_from most v k states (due + said.0.more + 1) (Some said.0.entry) said.1)) []
      (next (line_by (run_in v k states due before)) (λ said p. onto_run said (runs_from most v k states (due + said.more + 1) (Some said.entry) p))
      (lined (run_in v k states due before) (run-in-judges v due before)) (λ said.
      mapped (runs_from most v k states (due + said.more + 1) (Some said.entry)) (λ rs. said ∷ rs) (runs-cuts most v (due + said.more + 1) (Some said.entry))))

  entries-cuts : (v : Version) → Cuts (entries_from v k states)
  unfolding entries_from
  entries-cuts v = mapped (runs_from states v k states 0 None) entries_of (runs-cuts states v 0 None)

  pub closed-cuts : (v : Version) → Cuts (entries_to_end v k states)
  unfolding entries_to_end
  closed-cuts v =
      next (entries_from v k states) (λ xs p. line_by (is_line kind.Shape end_text) p >>= λ end. Ok (xs, end.1)) (entries-cuts v) (λ xs.
      mapped (line_by (is_line kind.Shape end_text)) (λ end. xs) (lined (is_line kind.Shape end_text) (λ n text. refuse-judges kind.Shape n _)))

-- ---- lines that are listed one by one

-- where no line may be read
ended : {A : Type 0} → Cuts (λ p. let r : Result (A × Place) Refusal = Err (missing p.line) in r)
ended {A} = record {
  read = λ p x q e. absurd cc;
  broken = λ p r e. (let z : p.line ≡ p.line + 0 = omega arith in
      let is : missing p.line ≡ r = cc in
      record {
        at = 0;
        number = ap (λ (x : Refusal). x.line) (sym is) ∙ z;
        before = ap (λ (n : ℕ). let x : Result (A × Place) Refusal = Err (missing n) in x) z;
        behind = λ j. ap (λ (x : Refusal). let y : Result (A × Place) Refusal = Err x in y) is;
      });
}

no-lines : (xs : List ℕ) → first_lines 0 xs ≡ []
unfolding first_lines
no-lines xs = refl

-- the first lines are no more bytes than all
lines-fewer : (i : ℕ) (p : Place) → length (first_lines i p.rest) ≤ length p.rest
lines-fewer zero p = rw (no-lines p.rest) (omega arith)
lines-fewer (suc i) p = by (next_line p) refl (lines-fewer i)
  where
    by : (r : Result (List ℕ × Place) Refusal) → next_line p ≡ r → ((q : Place) → length (first_lines i q.rest) ≤ length q.rest) → length (first_lines (suc i) p.rest) ≤ length p.rest
    by (Err e) lost fewer = let all = ap (λ (q : Place). length q.rest) ((line-missing p e lost).1 i) in omega (arith, all)
    by (Ok s) got fewer =
        let l = line-found p s.0 s.1 got in
        omega (
          arith,
          fewer s.1,
          ap (λ (t : List ℕ). length t) (cut-line p s.0 s.1 got i),
          ap (λ (t : List ℕ). length t) l.front,
          length-append (line s.0) (first_lines i s.1.rest),
          length-append (line s.0) s.1.rest,
        )

module _ {A : Type 0} (k : Listed A) (states : ℕ) (judges : (before : Option A) (n : ℕ) (text : List ℕ) → Judges n (k.judge states before n text)) where
  said-judges : (before : Option A) (n : ℕ) (text : List ℕ) → Judges n (listed_at k states before n text)
  unfolding listed_at
  said-judges before n text = by (bytes_eq text end_text)
    where
      by : (b : Bool) → Judges n (let q : Result (Option A) Refusal = cond b (Ok None) (k.judge states before n text >>= λ x. Ok (Some x)) in q)
      by true = ok-judges n None
      by false = then-judges n (k.judge states before n text) _ (judges before n text) (λ x. ok-judges n (Some x))

  listed-cuts : (most : ℕ) (before : Option A) → Cuts (listed_from most k states before)
  unfolding listed_from
  listed-cuts zero before = ended
  listed-cuts (suc most) before =
      next (line_by (listed_at k states before)) (λ o p. before_others o p (λ x. listed_from most k states (Some x) p)) (lined (listed_at k states before) (said-judges before))
      (others (λ x. listed-cuts most (Some x)))
    where
      others : ((x : A) → Cuts (listed_from most k states (Some x))) → (o : Option A) → Cuts (λ p. before_others o p (λ x. listed_from most k states (Some x) p))
      others more None = done []
      others more (Some x) = mapped (listed_from most k states (Some x)) (λ xs. x ∷ xs) (more x)

  -- the reader of a place reads the first lines from there too
  same-reader : (p : Place) (i : ℕ) → listed_to_end k states (cut i p) ≡ listed_from (suc (length p.rest)) k states None (cut i p)
  unfolding listed_to_end
  same-reader p i =
      let fewer = lines-fewer i p in enough k states (suc (length (first_lines i p.rest))) (suc (length p.rest)) None (cut i p) (omega arith) (omega arith)

  pub to_end-cuts : Cuts (listed_to_end k states)
  unfolding listed_to_end
  to_end-cuts = record {
    read = λ p x q e. (let t = (listed-cuts (suc (length p.rest)) None).read p x q e in
        record { lines = t.lines; number = t.number; again = λ j. same-reader p (t.lines + j) ∙ t.again j });
    broken = λ p r e. (let b = (listed-cuts (suc (length p.rest)) None).broken p r e in
        record { at = b.at; number = b.number; before = same-reader p b.at ∙ b.before; behind = λ j. same-reader p (suc b.at + j) ∙ b.behind j });
  }

mark-judges : (n : ℕ) (word : List ℕ) → Judges n (mark_at n word)
mark-judges n word = by (bytes_eq word (mark_text false)) (bytes_eq word (mark_text true))
  where
    by : (b c : Bool) → Judges n (let r : Result Bool Refusal = cond b (Ok false) (cond c (Ok true) (Err (record { kind = kind.Shape; line = n }))) in r)
    by true c = ok-judges n false
    by false c = cond-judges kind.Shape n c true

keep-judges : (states : ℕ) (before : Option ℕ) (n : ℕ) (text : List ℕ) → Judges n (keep_at states before n text)
unfolding keep_at
keep-judges states before n text =
    then-judges n (words_behind (codes "keep") 2 n text) _ (behind-judges (codes "keep") 2 n text) (λ behind.
    then-judges n (mark_at n (first_of (drop 1 behind))) _ (mark-judges n (first_of (drop 1 behind))) (λ wide.
    then-judges n (whole_at n (first_of behind)) _ (whole-judges n (first_of behind)) (λ state.
    then-judges n (refuse_if kind.Count n (not (is_next before state && ltb state states))) _ (refuse-judges kind.Count n _) (λ order. ok-judges n (Keep state wide)))))

flow-judges : (states : ℕ) (before : Option Flow) (n : ℕ) (text : List ℕ) → Judges n (flow_at states before n text)
unfolding flow_at
flow-judges states before n text =
    then-judges n (words_behind (codes "flow") 3 n text) _ (behind-judges (codes "flow") 3 n text) (λ behind.
    then-judges n (whole_at n (first_of behind)) _ (whole-judges n (first_of behind)) (λ state.
    then-judges n (whole_at n (first_of (drop 1 behind))) _ (whole-judges n (first_of (drop 1 behind))) (λ choice.
    then-judges n (frac_at n (first_of (drop 1 (drop 1 behind)))) _ (frac-judges n (first_of (drop 1 (drop 1 behind)))) (λ amount.
    (let f : Flow = record { state = state; choice = choice; amount = amount } in
    then-judges n (refuse_if kind.Count n (not (is_next_flow before f && ltb state states))) _ (refuse-judges kind.Count n _) (λ order. ok-judges n (Send f)))))))

flow-line-judges : (states : ℕ) (before : Option FlowLine) (n : ℕ) (text : List ℕ) → Judges n (flow_line_at states before n text)
unfolding flow_line_at
flow-line-judges states before n text = by (begins_with (codes "flow") (words text))
  where
    by : (b : Bool) → Judges n (cond b (flow_at states (option_and_then flow_in before) n text)
        (refuse_if kind.Shape n (is_some (option_and_then flow_in before)) >>= λ order. keep_at states (option_and_then kept_in before) n text))
    by true = flow-judges states (option_and_then flow_in before) n text
    by false =
        then-judges n (refuse_if kind.Shape n (is_some (option_and_then flow_in before))) _ (refuse-judges kind.Shape n _)
        (λ order. keep-judges states (option_and_then kept_in before) n text)

floor-line-judges : (states : ℕ) (before : Option FloorLine) (n : ℕ) (text : List ℕ) → Judges n (floor_line_at states before n text)
unfolding floor_line_at
floor-line-judges states before n text =
    then-judges n (words_behind (codes "keep") 4 n text) _ (behind-judges (codes "keep") 4 n text) (λ behind.
    then-judges n (mark_at n (first_of (drop 1 (drop 1 (drop 1 behind))))) _ (mark-judges n (first_of (drop 1 (drop 1 (drop 1 behind))))) (λ wide.
    then-judges n (whole_at n (first_of behind)) _ (whole-judges n (first_of behind)) (λ state.
    then-judges n (frac_at n (first_of (drop 1 behind))) _ (frac-judges n (first_of (drop 1 behind))) (λ value.
    then-judges n (whole_at n (first_of (drop 1 (drop 1 behind)))) _ (whole-judges n (first_of (drop 1 (drop 1 behind)))) (λ rank.
    then-judges n (refuse_if kind.Count n (not (is_next (option_map (λ x. x.state) before) state && ltb state states))) _ (refuse-judges kind.Count n _)
    (λ order. ok-judges n (record { state = state; value = value; rank = rank; wide = wide })))))))

-- ---- the parts

head-cuts : Cuts head_from
unfolding head_from
head-cuts =
    next (line_by claim_at) (λ claim p. with-claim init_at (claim, p)) (lined claim_at claim-judges) (λ claim.
    next (line_by states_at) (λ states p. with-states init_at claim (states, p)) (lined states_at states-judges) (λ states.
    mapped (line_by (init_at claim states)) (λ init. let h : CertHead = record { claim = claim; states = states; init = init } in h) (lined (init_at claim states) (init-judges claim states))))

spread-judges : (n : ℕ) (text : List ℕ) → Judges n (spread_at n text)
unfolding spread_at
spread-judges n text =
    then-judges n (words_behind (codes "spread") 1 n text) (λ behind. frac_at n (first_of behind)) (behind-judges (codes "spread") 1 n text) (λ behind. frac-judges n (first_of behind))

body-cuts : (v : Version) (claim : PlainClaim) (states : ℕ) → Cuts (body_from v claim states)
unfolding body_from
body-cuts v (upper label) states = mapped (entries_to_end v bound_columns states) bounds (closed-cuts bound_columns states v)
body-cuts v (reach dir label) states = mapped (entries_to_end v (policy_columns fraction_value) states) policy_body (closed-cuts (policy_columns fraction_value) states v)
body-cuts v (until dir stay label) states = mapped (entries_to_end v (policy_columns fraction_value) states) policy_body (closed-cuts (policy_columns fraction_value) states v)
body-cuts v (reward dir name label) states = mapped (entries_to_end v (policy_columns reward_value) states) reward_body (closed-cuts (policy_columns reward_value) states v)
body-cuts v (mean dir name) states =
    next (line_by spread_at) (λ spread p. entries_to_end v mean_columns states p >>= λ xs. Ok (mean_body spread xs.0, xs.1)) (lined spread_at spread-judges) (λ spread.
    mapped (entries_to_end v mean_columns states) (mean_body spread) (closed-cuts mean_columns states v))
body-cuts v (witness Max stay label t) states = mapped (listed_to_end flow_listed states) flow_body (to_end-cuts flow_listed states (flow-line-judges states))
body-cuts v (witness Min stay label t) states = mapped (listed_to_end floor_listed states) floor_body (to_end-cuts floor_listed states (floor-line-judges states))

-- all lines
abbrev top-body : Version → CertHead × Place → Result (Certificate × Place) Refusal
top-body v head = body_from v head.0.claim head.0.states head.1 >>= λ body. Ok (whole head.0 body.0, body.1)

abbrev top-head : Version × Place → Result (Certificate × Place) Refusal
top-head version = head_from version.1 >>= top-body version.0

abbrev top : Reader Certificate
top p = line_by version_at p >>= top-head

abbrev top-end : Certificate × Place → Result Certificate Refusal
top-end c = nothing_behind c.1 >>= λ nothing. Ok c.0

top-cuts : Cuts top
top-cuts =
    next (line_by version_at) (λ v p. top-head (v, p)) (lined version_at version-judges) (λ v.
    next head_from (λ h p. top-body v (h, p)) head-cuts (λ h.
    mapped (body_from v h.claim h.states) (whole h) (body-cuts v h.claim h.states)))

outcome-is : (bytes : List ℕ) → outcome bytes ≡ (top (place 1 bytes) >>= top-end)
unfolding outcome
outcome-is bytes = by (line_by version_at (place 1 bytes))
  where
    third : (h : CertHead) (r : Result (PlainBody × Place) Refusal) → (r >>= whole-end h) ≡ ((r >>= λ body. Ok (whole h body.0, body.1)) >>= top-end)
    third h (Ok b) = refl
    third h (Err e) = refl

    second : (v : Version) (r : Result (CertHead × Place) Refusal) → (r >>= whole-body v) ≡ ((r >>= top-body v) >>= top-end)
    second v (Ok h) = third h.0 (body_from v h.0.claim h.0.states h.1)
    second v (Err e) = refl

    by : (r : Result (Version × Place) Refusal) → (r >>= whole-head) ≡ ((r >>= top-head) >>= top-end)
    by (Ok v) = second v.0 (head_from v.1)
    by (Err e) = refl

-- ---- the whole text

lacks : (n : ℕ) (o : Result Certificate Refusal) → o ≡ Err (missing n) → LacksAtMost n o
lacks n o e = rw e refl

lacks-none : (n : ℕ) (o : Result Certificate Refusal) (c : Certificate) → o ≡ Ok c → LacksAtMost n o
lacks-none n o c e = rw e tt

abbrev IsFirst : List ℕ → Refusal → Type 0
IsFirst bytes r = (0 < r.line) × LacksAtMost r.line (outcome (first_lines (r.line - 1) bytes)) × (outcome (first_lines r.line bytes) ≡ Err r)

concluded : (bytes : List ℕ) (r : Refusal) (at : ℕ) → r.line ≡ 1 + at → LacksAtMost (1 + at) (outcome (first_lines at bytes)) → outcome (first_lines (suc at) bytes) ≡ Err r → IsFirst bytes r
concluded bytes r at number before behind =
    let less : r.line - 1 ≡ at = omega arith in
    let all : r.line ≡ suc at = omega arith in (
      omega arith,
      rw less (subst (λ (n : ℕ). LacksAtMost n (outcome (first_lines at bytes))) (sym number) before),
      ap (λ (n : ℕ). outcome (first_lines n bytes)) all ∙ behind,
    )

-- the refusal is of a line
in-top : (bytes : List ℕ) (r : Refusal) → top (place 1 bytes) ≡ Err r → IsFirst bytes r
in-top bytes r e =
    let b = top-cuts.broken (place 1 bytes) r e in
    let more : suc b.at ≡ suc b.at + 0 = omega arith in
    concluded bytes r b.at b.number
    (lacks _ _ (outcome-is (first_lines b.at bytes) ∙ ap (λ (q : Result (Certificate × Place) Refusal). q >>= top-end) b.before))
    (rw more (outcome-is (first_lines (suc b.at + 0) bytes) ∙ ap (λ (q : Result (Certificate × Place) Refusal). q >>= top-end) (b.behind 0)))

nonempty : (xs : List ℕ) → ltb 0 (length xs) ≡ true → ltb 0 (length (first_lines 1 xs)) ≡ true
unfolding first_lines
nonempty xs h = by (ltb (position_or_len is_line_feed xs) (length xs))
  where
    by : (q : Bool) → ltb 0 (length (cond q (line (before_first is_line_feed xs) ++ []) xs)) ≡ true
    by false = h
    by true = lt-ltb 0 _ (omega (arith, length-append (line (before_first is_line_feed xs)) [], length-append (before_first is_line_feed xs) (10 ∷ [])))

-- bytes stand behind the last line
module _ (bytes : List ℕ) (r : Refusal) (c : Certificate) (q : Place) (e : top (place 1 bytes) ≡ Ok (c, q)) where
  taken : Taken top (place 1 bytes) c q
  taken = top-cuts.read (place 1 bytes) c q e

  -- the text up to some lines behind it
  outcome-end : (j : ℕ) → outcome (first_lines (taken.lines + j) bytes) ≡ top-end (c, cut j q)
  outcome-end j = outcome-is (first_lines (taken.lines + j) bytes) ∙ ap (λ (x : Result (Certificate × Place) Refusal). x >>= top-end) (taken.again j)

  past-end : nothing_behind q ≡ Err r → IsFirst bytes r
  unfolding nothing_behind
  past-end lost =
      let some : ltb 0 (length q.rest) ≡ true = refused-is _ lost in
      let none : first_lines 0 q.rest ≡ [] = no-lines q.rest in
      let all : taken.lines + 0 ≡ taken.lines = omega arith in
      let more : taken.lines + 1 ≡ suc taken.lines = omega arith in
      concluded bytes r taken.lines ((refuse-judges kind.End q.line _) r lost ∙ taken.number)
      (lacks-none _ _ c (ap (λ (n : ℕ). outcome (first_lines n bytes)) (sym all) ∙ outcome-end 0 ∙ rw none refl))
      (ap (λ (n : ℕ). outcome (first_lines n bytes)) (sym more) ∙ outcome-end 1 ∙ rw (nonempty q.rest some) (as-refused _ lost))
    where
      refused-is : (b : Bool) → refuse_if kind.End q.line b ≡ Err r → b ≡ true
      refused-is true e = refl
      refused-is false e = absurd cc

      as-refused : (b : Bool) → refuse_if kind.End q.line b ≡ Err r → (let x : Result Certificate Refusal = Err (missing q.line) in x) ≡ Err r
      as-refused true e = let p : missing q.line ≡ r = cc in rw p refl
      as-refused false e = absurd cc

pub first-broken : (bytes : List ℕ) (r : Refusal) → outcome bytes ≡ Err r → IsFirst bytes r
first-broken bytes r e = elim (bind_err (top (place 1 bytes)) top-end r (sym (outcome-is bytes) ∙ e)) [
  | inl lost ↦ in-top bytes r lost
  | inr got ↦ (elim (bind_err (nothing_behind got.0.1) (λ nothing. Ok got.0.0) r got.2) [ inl lost ↦ past-end bytes r got.0.0 got.0.1 got.1 lost | inr end ↦ absurd (apart _ r end.2) ])
]
  where
    apart : (c : Certificate) (r : Refusal) → Ok c ≡ Err r → ⊥
    apart c r e = absurd cc
