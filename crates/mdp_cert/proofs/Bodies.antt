-- The lines of all states are read exactly where they are the lines of the entries, in each version.
use Rattle.std.proofs.Common.{◌≡◌, ℕ, zero, suc, ◌+◌, ◌<◌, ◌≤◌, ◌^◌, Bool, true, false, cond, ltb, List, [], ◌∷◌}
use Rattle.std.proofs.{Common.{◌++◌, length, map, Option, Some, None, Result, Ok, refl, sym, ap, ap₂, subst, ◌∙◌, append_assoc, arith}, Math.ListN.{replicate}}
use Rattle.std.proofs.{lemmas.Bool.{lt-ltb}, lemmas.Bool.Decides.{nat_tests}, lemmas.List.{length-append, length-replicate}}
use Rattle.mdp_text.specs.{declared.error.CertKind.TheVariants.{Shape}, declared.error.Refusal.{Refusal}, Lines.{◌>>=◌, Place, place, is_line, line_by}}
use Rattle.mdp_text.specs.Spelling.{line, end_text}
use Rattle.mdp_cert.specs.{declared.version.Version.{Version}, declared.version.Version.TheVariants.{One, Two}}
use Rattle.mdp_cert.specs.Runs.{Columns, Run, run, single, entries_of, before_runs, longest_runs, runs_in}
use Rattle.mdp_cert.specs.{Spelling.{run_text, run_lines, state_lines, closed_lines}, Reading.{run_in, onto_run, runs_from, entries_from, entries_to_end}}
use Rattle.mdp_text.proofs.Feeds.{bind_ok, ok-is, judged-found, judged-again, due-line, due-again}
use Rattle.mdp_cert.proofs.{Columns.{IsColumns}, Sections.{IsLongest, line-found, line-again, free-run}}

-- how many states runs stand for
abbrev pub total : {A : Type 0} → List (Run A) → ℕ
total [] = 0
total (r ∷ rs) = suc r.more + total rs

abbrev pub Each : {A : Type 0} → (A → Type 0) → List A → Type 0
Each P [] = Unit {0}
Each P (x ∷ xs) = P x × Each P xs

module _ {A : Type 0} (k : Columns A) (IsInWidth : A → Type 0) (is : IsColumns k IsInWidth) (states : ℕ) (limit : states ≤ 2 ^ 20) where
  abbrev Longest : Version → Option A → Run A → Type 0
  Longest = IsLongest k IsInWidth is states limit

  -- each line as its version wants it
  abbrev pub AreLongest : Version → Option A → List (Run A) → Type 0
  AreLongest v before [] = Unit {0}
  AreLongest v before (r ∷ rs) = Longest v before r × AreLongest v (Some r.entry) rs

  abbrev pub AreInWidth : List (Run A) → Type 0
  AreInWidth [] = Unit {0}
  AreInWidth (r ∷ rs) = IsInWidth r.entry × AreInWidth rs

  pub record AreLines (v : Version) (due : ℕ) (before : Option A) (rs : List (Run A)) : Type 0 where
    pub all : due + total rs ≡ states
    pub longest : AreLongest v before rs
    pub width : AreInWidth rs

  pub record Found (v : Version) (due : ℕ) (before : Option A) (p : Place) (rs : List (Run A)) (q : Place) : Type 0 where
    pub text : p.rest ≡ run_lines k due rs ++ q.rest
    pub lines : AreLines v due before rs

  abbrev more_runs : ℕ → Version → ℕ → Run A × Place → Result (List (Run A) × Place) Refusal
  more_runs most v due said = onto_run said.0 (runs_from most v k states (due + said.0.more + 1) (Some said.0.entry) said.1)

  pub runs-found : (most : ℕ) (v : Version) (due : ℕ) (before : Option A) (p : Place) (rs : List (Run A)) (q : Place) → due ≤ states → states ≤ due + most
      → runs_from most v k states due before p ≡ Ok (rs, q) → Found v due before p rs q
  unfolding runs_from run_lines
  runs-found zero v due before p rs q le enough e =
      let same : (let r : List (Run A) × Place = ([], p) in r) ≡ (rs, q) = ok-is _ _ e in
      subst (λ (r : List (Run A) × Place). Found v due before p r.0 r.1) same (record { text = refl; lines = record { all = omega arith; longest = tt; width = tt } })
  runs-found (suc most) v due before p rs q le enough e = by (ltb due states) refl e
      (λ said behind below. runs-found most v (due + said.0.more + 1) (Some said.0.entry) said.1 behind.0 behind.1 (omega arith) (omega arith))
    where
      joined : (a b c d : List ℕ) → a ≡ b → c ≡ d → (rest : List ℕ) → line a ++ (c ++ rest) ≡ (line b ++ d) ++ rest
      joined a b c d e f rest = rw (e, f) (sym (append_assoc (line b) d rest))

      by : (b : Bool) → ltb due states ≡ b → cond b (line_by (run_in v k states due before) p >>= more_runs most v due) (Ok ([], p)) ≡ Ok (rs, q)
          → ((said : Run A × Place) (behind : List (Run A) × Place) → due + said.0.more < states → runs_from most v k states (due + said.0.more + 1) (Some said.0.entry)
          said.1 ≡ Ok (behind.0, behind.1) → Found v (due + said.0.more + 1) (Some said.0.entry) said.1 behind.0 behind.1)
          → Found v due before p rs q
      by false t e more =
          let same : (let r : List (Run A) × Place = ([], p) in r) ≡ (rs, q) = ok-is _ _ e in
          let none : due ≡ states = (let ge : states ≤ due = grind (arith, nat_tests) in omega arith) in
          subst (λ (r : List (Run A) × Place). Found v due before p r.0 r.1) same (record { text = refl; lines = record { all = omega arith; longest = tt; width = tt } })
      by true t e more =
          let lt : due < states = grind (arith, nat_tests) in
          let one = bind_ok (line_by (run_in v k states due before) p) (more_runs most v due) (rs, q) e in
          let two = bind_ok (runs_from most v k states (due + one.0.0.more + 1) (Some one.0.0.entry) one.0.1) (λ o. Ok (one.0.0 ∷ o.0, o.1)) (rs, q) one.2 in
          let same : (let r : List (Run A) × Place = (one.0.0 ∷ two.0.0, two.0.1) in r) ≡ (rs, q) = ok-is _ _ two.2 in
          let j = judged-found (run_in v k states due before) p one.0.0 one.0.1 one.1 in
          let l = line-found k IsInWidth is states limit v due before p.line j.text one.0.0 lt j.said in
          let m = more one.0 two.0 l.0.inside two.1 in
          subst (λ (r : List (Run A) × Place). Found v due before p r.0 r.1) same (record {
            text =
                j.is.front ∙ ap (λ (t : List ℕ). line j.text ++ t) m.text ∙ joined j.text (run_text k due one.0.0) (run_lines k (due + one.0.0.more + 1) two.0.0) _ l.0.spelled refl two.0.1.rest;
            lines = record { all = omega (arith, m.lines.all); longest = (l.1, m.lines.longest); width = (l.0.width, m.lines.width) };
          })

  -- and back
  pub runs-again : (most : ℕ) (v : Version) (due : ℕ) (before : Option A) (n : ℕ) (rs : List (Run A)) (rest : List ℕ) → states ≤ due + most → AreLines v due before rs
      → (m : ℕ) × (runs_from most v k states due before (place n (run_lines k due rs ++ rest)) ≡ Ok (rs, place m rest))
  unfolding runs_from run_lines
  runs-again zero v due before n [] rest enough h = (n, refl)
  runs-again zero v due before n (r ∷ rs) rest enough h = absurd (omega (arith, h.all))
  runs-again (suc most) v due before n [] rest enough h =
      let none : ltb due states ≡ false = (let all = h.all in grind (arith, nat_tests)) in
      (n, rw none refl)
  runs-again (suc most) v due before n (r ∷ rs) rest enough h =
      let below : due + r.more < states = omega (arith, h.all) in
      let some : ltb due states ≡ true = lt-ltb due states (omega arith) in
      let others : AreLines v (due + r.more + 1) (Some r.entry) rs = record { all = omega (arith, h.all); longest = h.longest.1; width = h.width.1 } in
      let more = runs-again most v (due + r.more + 1) (Some r.entry) (n + 1) rs rest (omega arith) others in
      let first =
      judged-again (run_in v k states due before) n (run_text k due r) (run_lines k (due + r.more + 1) rs ++ rest) r
      (free-run k IsInWidth is states limit due r below h.width.0) (line-again k IsInWidth is states limit v due before n r below h.width.0 h.longest.0) in (
        more.0,
        rw (some, append_assoc (line (run_text k due r)) (run_lines k (due + r.more + 1) rs) rest)
            (ap (λ (x : Result (Run A × Place) Refusal). x >>= more_runs most v due) first ∙ ap (onto_run r) more.1),
      )

  -- ---- entries and runs

  length-entries : (rs : List (Run A)) → length (entries_of rs) ≡ total rs
  length-entries [] = refl
  length-entries (r ∷ rs) = omega (arith, length-append (replicate r.more r.entry) (entries_of rs), length-replicate r.more r.entry, length-entries rs)

  each-repeated : (m : ℕ) (x : A) (xs : List A) → IsInWidth x → Each IsInWidth xs → Each IsInWidth (replicate m x ++ xs)
  each-repeated zero x xs h hs = hs
  each-repeated (suc m) x xs h hs = (h, each-repeated m x xs h hs)

  width-entries : (rs : List (Run A)) → AreInWidth rs → Each IsInWidth (entries_of rs)
  width-entries [] h = tt
  width-entries (r ∷ rs) h = (h.0, each-repeated r.more r.entry (entries_of rs) h.0 (width-entries rs h.1))

  -- version 1
  singles-entries : (xs : List A) → entries_of (map single xs) ≡ xs
  singles-entries [] = refl
  singles-entries (x ∷ xs) = ap (λ (ys : List A). x ∷ ys) (singles-entries xs)

  singles-again : (before : Option A) (rs : List (Run A)) → AreLongest One before rs → map single (entries_of rs) ≡ rs
  singles-again before [] h = refl
  singles-again before (r ∷ rs) h =
      let one : single r.entry ≡ r = ap (run r.entry) (sym h.0) in
      let none : replicate r.more r.entry ++ entries_of rs ≡ entries_of rs = ap (λ (m : ℕ). replicate m r.entry ++ entries_of rs) h.0 in
      ap (λ (ys : List A). single r.entry ∷ map single ys) none ∙ ap₂ (λ (q : Run A) (qs : List (Run A)). q ∷ qs) one (singles-again (Some r.entry) rs h.1)

  singles-longest : (before : Option A) (xs : List A) → AreLongest One before (map single xs)
  singles-longest before [] = tt
  singles-longest before (x ∷ xs) = (refl, singles-longest (Some x) xs)

  singles-width : (xs : List A) → Each IsInWidth xs → AreInWidth (map single xs)
  singles-width [] h = tt
  singles-width (x ∷ xs) h = (h.0, singles-width xs h.1)

  -- version 2
  before-entries : (x : A) (rs : List (Run A)) → entries_of (before_runs k x rs) ≡ x ∷ entries_of rs
  before-entries x [] = refl
  before-entries x (r ∷ rs) = by (k.same x r.entry) refl
    where
      by : (b : Bool) → k.same x r.entry ≡ b → entries_of (cond b (run x (suc r.more) ∷ rs) (single x ∷ r ∷ rs)) ≡ x ∷ (r.entry ∷ (replicate r.more r.entry ++ entries_of rs))
      by true e = ap (λ (y : A). x ∷ (y ∷ (replicate r.more y ++ entries_of rs))) (is.same x r.entry e)
      by false e = refl

  longest-entries : (xs : List A) → entries_of (longest_runs k xs) ≡ xs
  unfolding longest_runs
  longest-entries [] = refl
  longest-entries (x ∷ xs) = before-entries x (longest_runs k xs) ∙ ap (λ (ys : List A). x ∷ ys) (longest-entries xs)

  before-longest : (x : A) (rs : List (Run A)) → AreLongest Two None rs → AreLongest Two None (before_runs k x rs)
  before-longest x [] h = (refl, tt)
  before-longest x (r ∷ rs) h = by (k.same x r.entry) refl
    where
      by : (b : Bool) → k.same x r.entry ≡ b → AreLongest Two None (cond b (run x (suc r.more) ∷ rs) (single x ∷ r ∷ rs))
      by true e = (refl, subst (λ (y : A). AreLongest Two (Some y) rs) (sym (is.same x r.entry e)) h.1)
      by false e = (refl, (e, h.1))

  longest-longest : (xs : List A) → AreLongest Two None (longest_runs k xs)
  unfolding longest_runs
  longest-longest [] = tt
  longest-longest (x ∷ xs) = before-longest x (longest_runs k xs) (longest-longest xs)

  before-width : (x : A) (rs : List (Run A)) → IsInWidth x → AreInWidth rs → AreInWidth (before_runs k x rs)
  before-width x [] h hs = (h, tt)
  before-width x (r ∷ rs) h hs = by (k.same x r.entry)
    where
      by : (b : Bool) → AreInWidth (cond b (run x (suc r.more) ∷ rs) (single x ∷ r ∷ rs))
      by true = (h, hs.1)
      by false = (h, hs)

  longest-width : (xs : List A) → Each IsInWidth xs → AreInWidth (longest_runs k xs)
  unfolding longest_runs
  longest-width [] h = tt
  longest-width (x ∷ xs) h = before-width x (longest_runs k xs) h.0 (longest-width xs h.1)

  -- no run among these could be one with a state before them that says x
  abbrev Differs : A → List (Run A) → Type 0
  Differs x rs = AreLongest Two (Some x) rs

  before-apart : (x : A) (rs : List (Run A)) → Differs x rs → before_runs k x rs ≡ single x ∷ rs
  before-apart x [] h = refl
  before-apart x (r ∷ rs) h = rw h.0 refl

  longest-repeated : (m : ℕ) (x : A) (ys : List A) (rs : List (Run A)) → longest_runs k ys ≡ rs → Differs x rs → longest_runs k (x ∷ (replicate m x ++ ys)) ≡ run x m ∷ rs
  unfolding longest_runs
  longest-repeated zero x ys rs e h = ap (before_runs k x) e ∙ before-apart x rs h
  longest-repeated (suc m) x ys rs e h = ap (before_runs k x) (longest-repeated m x ys rs e h) ∙ (let itself : k.same x x ≡ true = is.itself x in rw itself refl)

  longest-again : (before : Option A) (rs : List (Run A)) → AreLongest Two before rs → longest_runs k (entries_of rs) ≡ rs
  unfolding longest_runs
  longest-again before [] h = refl
  longest-again before (r ∷ rs) h = longest-repeated r.more r.entry (entries_of rs) rs (longest-again (Some r.entry) rs h.1) h.1

  -- either version
  runs-entries : (v : Version) (xs : List A) → entries_of (runs_in v k xs) ≡ xs
  runs-entries One xs = singles-entries xs
  runs-entries Two xs = longest-entries xs

  runs-same : (v : Version) (rs : List (Run A)) → AreLongest v None rs → runs_in v k (entries_of rs) ≡ rs
  runs-same One rs h = singles-again None rs h
  runs-same Two rs h = longest-again None rs h

  runs-longest : (v : Version) (xs : List A) → AreLongest v None (runs_in v k xs)
  runs-longest One xs = singles-longest None xs
  runs-longest Two xs = longest-longest xs

  runs-width : (v : Version) (xs : List A) → Each IsInWidth xs → AreInWidth (runs_in v k xs)
  runs-width One xs h = singles-width xs h
  runs-width Two xs h = longest-width xs h

  -- ---- the lines of all states

  record FoundAll (v : Version) (p : Place) (xs : List A) (q : Place) : Type 0 where
    text : p.rest ≡ state_lines v k xs ++ q.rest
    count : length xs ≡ states
    width : Each IsInWidth xs

  entries-found : (v : Version) (p : Place) (xs : List A) (q : Place) → entries_from v k states p ≡ Ok (xs, q) → FoundAll v p xs q
  unfolding entries_from
  entries-found v p xs q e =
      let one = bind_ok (runs_from states v k states 0 None p) (λ rs. Ok (entries_of rs.0, rs.1)) (xs, q) e in
      let same : (let r : List A × Place = (entries_of one.0.0, one.0.1) in r) ≡ (xs, q) = ok-is _ _ one.2 in
      let f = runs-found states v 0 None p one.0.0 one.0.1 (omega arith) (omega arith) one.1 in
      subst (λ (r : List A × Place). FoundAll v p r.0 r.1) same (record {
        text = f.text ∙ ap (λ (rs : List (Run A)). run_lines k 0 rs ++ one.0.1.rest) (sym (runs-same v one.0.0 f.lines.longest));
        count = length-entries one.0.0 ∙ omega (arith, f.lines.all);
        width = width-entries one.0.0 f.lines.width;
      })

  entries-again : (v : Version) (n : ℕ) (xs : List A) (rest : List ℕ) → length xs ≡ states → Each IsInWidth xs
      → (m : ℕ) × (entries_from v k states (place n (state_lines v k xs ++ rest)) ≡ Ok (xs, place m rest))
  unfolding entries_from
  entries-again v n xs rest count width =
      let all : 0 + total (runs_in v k xs) ≡ states = (let t = length-entries (runs_in v k xs) in let u = ap (λ (ys : List A). length ys) (runs-entries v xs) in omega arith) in
      let r = runs-again states v 0 None n (runs_in v k xs) rest (omega arith) (record { all = all; longest = runs-longest v xs; width = runs-width v xs width }) in (
        r.0,
        ap (λ (q : Result (List (Run A) × Place) Refusal). q >>= λ rs. Ok (entries_of rs.0, rs.1)) r.1
            ∙ ap (λ (ys : List A). let q : Result (List A × Place) Refusal = Ok (ys, place r.0 rest) in q) (runs-entries v xs),
      )

  -- with the line `end`
  pub record FoundClosed (v : Version) (p : Place) (xs : List A) (q : Place) : Type 0 where
    pub text : p.rest ≡ closed_lines v k xs ++ q.rest
    pub count : length xs ≡ states
    pub width : Each IsInWidth xs

  abbrev ended : List A × Place → Result (List A × Place) Refusal
  ended xs = line_by (is_line Shape end_text) xs.1 >>= λ end. Ok (xs.0, end.1)

  pub closed-found : (v : Version) (p : Place) (xs : List A) (q : Place) → entries_to_end v k states p ≡ Ok (xs, q) → FoundClosed v p xs q
  unfolding entries_to_end
  closed-found v p xs q e =
      let one = bind_ok (entries_from v k states p) ended (xs, q) e in
      let two = bind_ok (line_by (is_line Shape end_text) one.0.1) (λ end. Ok (one.0.0, end.1)) (xs, q) one.2 in
      let same : (let r : List A × Place = (one.0.0, two.0.1) in r) ≡ (xs, q) = ok-is _ _ two.2 in
      let f = entries-found v p one.0.0 one.0.1 one.1 in
      let j = judged-found (is_line Shape end_text) one.0.1 two.0.0 two.0.1 two.1 in
      subst (λ (r : List A × Place). FoundClosed v p r.0 r.1) same (record {
        text = joined p.rest (state_lines v k one.0.0) one.0.1.rest j.text end_text two.0.1.rest f.text j.is.front (due-line Shape one.0.1.line j.text end_text two.0.0 j.said);
        count = f.count;
        width = f.width;
      })
    where
      joined : (a b c t u d : List ℕ) → a ≡ b ++ c → c ≡ line t ++ d → t ≡ u → a ≡ (b ++ line u) ++ d
      joined a b c t u d p q r = rw (p, q, r) (sym (append_assoc b (line u) d))

  pub closed-again : (v : Version) (n : ℕ) (xs : List A) (rest : List ℕ) → length xs ≡ states → Each IsInWidth xs
      → (m : ℕ) × (entries_to_end v k states (place n (closed_lines v k xs ++ rest)) ≡ Ok (xs, place m rest))
  unfolding entries_to_end
  closed-again v n xs rest count width =
      let r = entries-again v n xs (line end_text ++ rest) count width in (
        r.0 + 1,
        ap (λ (t : List ℕ). entries_from v k states (place n t) >>= ended) (append_assoc (state_lines v k xs) (line end_text) rest)
            ∙ ap (λ (q : Result (List A × Place) Refusal). q >>= ended) r.1
            ∙ ap (λ (q : Result (Unit {0} × Place) Refusal). q >>= λ end. let x : Result (List A × Place) Refusal = Ok (xs, end.1) in x)
            (judged-again (is_line Shape end_text) r.0 end_text rest tt refl (due-again Shape r.0 end_text)),
      )
