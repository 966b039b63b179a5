-- The lines of states are read exactly where they are the lines of their runs.
use Rattle.std.proofs.Common.{◌≡◌, ℕ, zero, suc, ◌+◌, ◌-◌, ◌<◌, ◌≤◌, ◌^◌, Bool, true, false, not, cond, eqb, ltb}
use Rattle.std.proofs.{Common.{◌||◌, List, [], ◌∷◌, length, drop, decimal, Option, Result, Ok, refl, sym, ap, ap₂, subst, ◌∙◌, arith}, lemmas.Bool.{not-false}}
use Rattle.std.proofs.lemmas.Bool.Decides.{nat_tests}
use Rattle.std.specs.{Prelude.{codes}, List.{join_with_byte}}
use Rattle.mdp_text.specs.declared.error.CertKind.TheVariants as kind
use Rattle.mdp_text.specs.{declared.error.Refusal.{Refusal}, Lines.{◌>>=◌, refuse_if}, Words.{words, first_of, begins_with, words_behind, whole_at}}
use Rattle.mdp_text.specs.Spelling.{◌␣◌}
use Rattle.mdp_cert.specs.{declared.version.Version.{Version}, declared.version.Version.TheVariants.{One, Two}, Runs.{Columns, Run, run, single}}
use Rattle.mdp_cert.specs.{Spelling.{entry_text, run_text}, Reading.{entry_at, state_at, run_at, is_same, line_of_states, longest_at, run_in}}
use Rattle.mdp_text.proofs.{Pieces.{Free}, Cuts.{same-number, number-same}, Feeds.{bind_ok, ok-is, refuse_ok, found_ok, whole-found, whole-again}}
use Rattle.mdp_text.proofs.Joined.{join-front, free-join, free-whole, behind-again, behind-text, first-rest}
use Rattle.mdp_cert.proofs.Columns.{IsColumns}

module _ {A : Type 0} (k : Columns A) (IsInWidth : A → Type 0) (is : IsColumns k IsInWidth) (states : ℕ) (limit : states ≤ 2 ^ 20) where
  -- ---- one line

  some-words : (x : A) → 0 < length (k.words x)
  some-words x = omega (arith, is.some, is.count x)

  abbrev state-words : ℕ → A → List (List ℕ)
  state-words due x = decimal due ∷ k.words x

  abbrev run-words : ℕ → ℕ → A → List (List ℕ)
  run-words first last x = decimal first ∷ decimal last ∷ k.words x

  state-joined : (due : ℕ) (x : A) → join_with_byte 32 (codes "state" ∷ state-words due x) ≡ codes "state" ␣ decimal due ␣ entry_text k x
  state-joined due x = ap (λ (t : List ℕ). codes "state" ␣ t) (join-front (decimal due) (k.words x) (some-words x))

  run-joined : (first last : ℕ) (x : A) → join_with_byte 32 (codes "run" ∷ run-words first last x) ≡ codes "run" ␣ decimal first ␣ decimal last ␣ entry_text k x
  run-joined first last x = ap (λ (t : List ℕ). codes "run" ␣ decimal first ␣ t) (join-front (decimal last) (k.words x) (some-words x))

  entry-found : (n : ℕ) (ws : List (List ℕ)) (x : A) → entry_at k n ws ≡ Ok x → (ws ≡ k.words x) × IsInWidth x
  unfolding entry_at
  entry-found n ws x e = is.found ws x (found_ok (k.parse ws) kind.Number n x e)

  entry-again : (n : ℕ) (x : A) → IsInWidth x → entry_at k n (k.words x) ≡ Ok x
  unfolding entry_at
  entry-again n x h = rw (is.again x h) refl

  -- a line that says this of the states from the one that is due on
  pub record Said (due : ℕ) (text : List ℕ) (r : Run A) : Type 0 where
    pub spelled : text ≡ run_text k due r
    pub width : IsInWidth r.entry
    pub inside : due + r.more < states

  abbrev order-of : ℕ → ℕ → ℕ → A → Result (Run A) Refusal
  order-of due n state x = refuse_if kind.Count n (not (eqb state due)) >>= λ order. Ok (single x)

  abbrev entry-of : ℕ → ℕ → List (List ℕ) → ℕ → Result (Run A) Refusal
  entry-of due n behind state = entry_at k n (drop 1 behind) >>= order-of due n state

  abbrev state-of : ℕ → ℕ → List (List ℕ) → Result (Run A) Refusal
  state-of due n behind = whole_at n (first_of behind) >>= entry-of due n behind

  pub state-found : (due n : ℕ) (text : List ℕ) (r : Run A) → due < states → state_at k due n text ≡ Ok r → Said due text r × (r.more ≡ 0)
  unfolding state_at run_text
  state-found due n text r lt e =
      let one = bind_ok (words_behind (codes "state") (1 + k.width) n text) (state-of due n) r e in
      let two = bind_ok (whole_at n (first_of one.0)) (entry-of due n one.0) r one.2 in
      let three = bind_ok (entry_at k n (drop 1 one.0)) (order-of due n two.0) r two.2 in
      let four = bind_ok (refuse_if kind.Count n (not (eqb two.0 due))) (λ order. Ok (single three.0)) r three.2 in
      let is-r : single three.0 ≡ r = ok-is _ _ four.2 in
      let t = behind-text (codes "state") (1 + k.width) n text one.0 one.1 in
      let x = entry-found n (drop 1 one.0) three.0 three.1 in
      let w = whole-found n (first_of one.0) two.0 two.1 in
      let order : two.0 ≡ due = number-same _ _ (not-false _ (refuse_ok _ kind.Count n four.0 four.1)) in
      let ws : one.0 ≡ state-words due three.0 = first-rest one.0 (omega (arith, t.1)) ∙ ap₂ (λ (a : List ℕ) (b : List (List ℕ)). a ∷ b) (w.0 ∙ ap decimal order) x.0 in
      subst (λ (q : Run A). Said due text q × (q.more ≡ 0)) is-r (
        record { spelled = t.0 ∙ ap (λ (us : List (List ℕ)). join_with_byte 32 (codes "state" ∷ us)) ws ∙ state-joined due three.0; width = x.1; inside = omega arith },
        refl,
      )

  abbrev in-order : ℕ → ℕ → ℕ → Bool
  in-order due first last = not (eqb first due) || not (ltb first last) || not (ltb last states)

  abbrev run-order : ℕ → ℕ → ℕ → ℕ → A → Result (Run A) Refusal
  run-order due n first last x = refuse_if kind.Count n (in-order due first last) >>= λ order. Ok (run x (last - first))

  abbrev run-entry : ℕ → ℕ → List (List ℕ) → ℕ → ℕ → Result (Run A) Refusal
  run-entry due n behind first last = entry_at k n (drop 1 (drop 1 behind)) >>= run-order due n first last

  abbrev run-last : ℕ → ℕ → List (List ℕ) → ℕ → Result (Run A) Refusal
  run-last due n behind first = whole_at n (first_of (drop 1 behind)) >>= run-entry due n behind first

  abbrev run-first : ℕ → ℕ → List (List ℕ) → Result (Run A) Refusal
  run-first due n behind = whole_at n (first_of behind) >>= run-last due n behind

  record InOrder (due first last : ℕ) : Type 0 where
    first_is : first ≡ due
    above : first < last
    below : last < states

  order-found : (due first last : ℕ) → in-order due first last ≡ false → InOrder due first last
  order-found due first last e = record { first_is = grind (arith, nat_tests); above = grind (arith, nat_tests); below = grind (arith, nat_tests) }

  two-first : (ws : List (List ℕ)) → 2 ≤ length ws → ws ≡ first_of ws ∷ first_of (drop 1 ws) ∷ drop 1 (drop 1 ws)
  two-first [] h = absurd (omega arith)
  two-first (w ∷ []) h = absurd (omega arith)
  two-first (w ∷ v ∷ ws) h = refl

  run-spelled : (due first last : ℕ) (x : A) → first ≡ due → first < last → codes "run" ␣ decimal first ␣ decimal last ␣ entry_text k x ≡ run_text k due (run x (last - first))
  unfolding run_text
  run-spelled due first last x f lt =
      let some : eqb (last - first) 0 ≡ false = grind (arith, nat_tests) in
      let up : due + (last - first) ≡ last = omega arith in
      rw (some, up, f) refl

  pub run-found : (due n : ℕ) (text : List ℕ) (r : Run A) → run_at k states due n text ≡ Ok r → Said due text r
  unfolding run_at
  run-found due n text r e =
      let one = bind_ok (words_behind (codes "run") (2 + k.width) n text) (run-first due n) r e in
      let two = bind_ok (whole_at n (first_of one.0)) (run-last due n one.0) r one.2 in
      let three = bind_ok (whole_at n (first_of (drop 1 one.0))) (run-entry due n one.0 two.0) r two.2 in
      let four = bind_ok (entry_at k n (drop 1 (drop 1 one.0))) (run-order due n two.0 three.0) r three.2 in
      let five = bind_ok (refuse_if kind.Count n (in-order due two.0 three.0)) (λ order. Ok (run four.0 (three.0 - two.0))) r four.2 in
      let is-r : run four.0 (three.0 - two.0) ≡ r = ok-is _ _ five.2 in
      let t = behind-text (codes "run") (2 + k.width) n text one.0 one.1 in
      let x = entry-found n (drop 1 (drop 1 one.0)) four.0 four.1 in
      let w = whole-found n (first_of one.0) two.0 two.1 in
      let v = whole-found n (first_of (drop 1 one.0)) three.0 three.1 in
      let o = order-found due two.0 three.0 (refuse_ok _ kind.Count n five.0 five.1) in
      let ws : one.0 ≡ run-words two.0 three.0 four.0 = two-first one.0 (omega (arith, t.1)) ∙ words-same _ _ _ _ _ _ w.0 v.0 x.0 in
      subst (λ (q : Run A). Said due text q) is-r (record {
        spelled = t.0 ∙ ap (λ (us : List (List ℕ)). join_with_byte 32 (codes "run" ∷ us)) ws ∙ run-joined two.0 three.0 four.0 ∙ run-spelled due two.0 three.0 four.0 o.first_is o.above;
        width = x.1;
        inside = omega (arith, o.first_is, o.above, o.below);
      })
    where
      words-same : (a b c d : List ℕ) (us vs : List (List ℕ)) → a ≡ b → c ≡ d → us ≡ vs → a ∷ c ∷ us ≡ b ∷ d ∷ vs
      words-same a b c d us vs p q s = rw (p, q, s) refl

  -- ---- and back

  pub state-again : (due n : ℕ) (x : A) → due < states → IsInWidth x → state_at k due n (run_text k due (single x)) ≡ Ok (single x)
  unfolding state_at run_text
  state-again due n x lt h =
      let small : due < 2 ^ 32 = omega arith in
      let ws : words_behind (codes "state") (1 + k.width) n (codes "state" ␣ decimal due ␣ entry_text k x) ≡ Ok (state-words due x) =
      ap (words_behind (codes "state") (1 + k.width) n) (sym (state-joined due x))
      ∙ behind-again (codes "state") (1 + k.width) n (state-words due x) (omega (arith, is.count x)) refl (free-whole 32 due (omega arith) small, is.blanks x h) in
      let order : eqb due due ≡ true = same-number due due refl in
      rw (ws, whole-again n due small, entry-again n x h, order) refl

  run-again-text : (due last n : ℕ) (x : A) → due < last → last < states → IsInWidth x
      → run_at k states due n (codes "run" ␣ decimal due ␣ decimal last ␣ entry_text k x) ≡ Ok (run x (last - due))
  unfolding run_at
  run-again-text due last n x lt below h =
      let small : due < 2 ^ 32 = omega arith in
      let last-small : last < 2 ^ 32 = omega arith in
      let ws : words_behind (codes "run") (2 + k.width) n (codes "run" ␣ decimal due ␣ decimal last ␣ entry_text k x) ≡ Ok (run-words due last x) =
      ap (words_behind (codes "run") (2 + k.width) n) (sym (run-joined due last x))
      ∙ behind-again (codes "run") (2 + k.width) n (run-words due last x) (omega (arith, is.count x)) refl
      (free-whole 32 due (omega arith) small, (free-whole 32 last (omega arith) last-small, is.blanks x h)) in
      let order : in-order due due last ≡ false = grind (arith, nat_tests) in
      rw (ws, whole-again n due small, whole-again n last last-small, entry-again n x h, order) refl

  pub run-again : (due more n : ℕ) (x : A) → 0 < more → due + more < states → IsInWidth x → run_at k states due n (run_text k due (run x more)) ≡ Ok (run x more)
  run-again due more n x some lt h =
      let back : (due + more) - due ≡ more = omega arith in
      subst (λ (m : ℕ). run_at k states due n (run_text k due (run x m)) ≡ Ok (run x m)) back
      (ap (run_at k states due n) (sym (run-spelled due due (due + more) x refl (omega arith))) ∙ run-again-text due (due + more) n x (omega arith) lt h)

  pub free-run : (due : ℕ) (r : Run A) → due + r.more < states → IsInWidth r.entry → Free 10 (run_text k due r)
  unfolding run_text
  free-run due r lt h = by (eqb r.more 0)
    where
      by : (b : Bool) → Free 10 (cond b (codes "state" ␣ decimal due ␣ entry_text k r.entry) (codes "run" ␣ decimal due ␣ decimal (due + r.more) ␣ entry_text k r.entry))
      by true =
          subst (λ (t : List ℕ). Free 10 t) (state-joined due r.entry)
          (free-join 10 (codes "state" ∷ state-words due r.entry) refl (refl, (free-whole 10 due (omega arith) (omega arith), is.feeds r.entry h)))
      by false =
          subst (λ (t : List ℕ). Free 10 t) (run-joined due (due + r.more) r.entry)
          (free-join 10 (codes "run" ∷ run-words due (due + r.more) r.entry) refl
          (refl, (free-whole 10 due (omega arith) (omega arith), (free-whole 10 (due + r.more) (omega arith) (omega arith), is.feeds r.entry h))))

  -- ---- a line in its version

  -- a line of one state in version 1; one that couldn't be one with the line before it in version 2
  abbrev pub IsLongest : Version → Option A → Run A → Type 0
  IsLongest One before r = r.more ≡ 0
  IsLongest Two before r = is_same k before r.entry ≡ false

  line-of-found : (due n : ℕ) (text : List ℕ) (r : Run A) → due < states → line_of_states k states due n text ≡ Ok r → Said due text r
  line-of-found due n text r lt e = by (begins_with (codes "run") (words text)) e
    where
      by : (b : Bool) → cond b (run_at k states due n text) (state_at k due n text) ≡ Ok r → Said due text r
      by true e = run-found due n text r e
      by false e = (state-found due n text r lt e).0

  abbrev longest-of : Option A → ℕ → Run A → Result (Run A) Refusal
  longest-of before n said = refuse_if kind.Run n (is_same k before said.entry) >>= λ longest. Ok said

  pub line-found : (v : Version) (due : ℕ) (before : Option A) (n : ℕ) (text : List ℕ) (r : Run A) → due < states → run_in v k states due before n text ≡ Ok r
      → Said due text r × IsLongest v before r
  unfolding longest_at
  line-found One due before n text r lt e = state-found due n text r lt e
  line-found Two due before n text r lt e =
      let one = bind_ok (line_of_states k states due n text) (longest-of before n) r e in
      let two = bind_ok (refuse_if kind.Run n (is_same k before one.0.entry)) (λ longest. Ok one.0) r one.2 in
      let is-r : one.0 ≡ r = ok-is _ _ two.2 in
      subst (λ (q : Run A). Said due text q × IsLongest Two before q) is-r (line-of-found due n text one.0 lt one.1, refuse_ok _ kind.Run n two.0 two.1)

  run-begins : (due : ℕ) (r : Run A) → 0 < r.more → begins_with (codes "run") (words (run_text k due r)) ≡ true
  unfolding run_text
  run-begins due r some = let more : eqb r.more 0 ≡ false = grind (arith, nat_tests) in rw more refl

  state-begins : (due : ℕ) (x : A) → begins_with (codes "run") (words (run_text k due (single x))) ≡ false
  unfolding run_text
  state-begins due x = refl

  line-of-again : (due n : ℕ) (r : Run A) → due + r.more < states → IsInWidth r.entry → line_of_states k states due n (run_text k due r) ≡ Ok r
  line-of-again due n r lt h = by r.more refl
    where
      by : (m : ℕ) → r.more ≡ m → line_of_states k states due n (run_text k due r) ≡ Ok r
      by zero e =
          let same : single r.entry ≡ r = ap (run r.entry) (sym e) in
          subst (λ (q : Run A). line_of_states k states due n (run_text k due q) ≡ Ok q) same
          (ap (λ (b : Bool). cond b (run_at k states due n (run_text k due (single r.entry))) (state_at k due n (run_text k due (single r.entry)))) (state-begins due r.entry)
          ∙ state-again due n r.entry (omega arith) h)
      by (suc m) e =
          ap (λ (b : Bool). cond b (run_at k states due n (run_text k due r)) (state_at k due n (run_text k due r))) (run-begins due r (omega arith))
          ∙ run-again due r.more n r.entry (omega arith) lt h

  pub line-again : (v : Version) (due : ℕ) (before : Option A) (n : ℕ) (r : Run A) → due + r.more < states → IsInWidth r.entry → IsLongest v before r
      → run_in v k states due before n (run_text k due r) ≡ Ok r
  unfolding longest_at
  line-again One due before n r lt h l =
      let same : single r.entry ≡ r = ap (run r.entry) (sym l) in
      subst (λ (q : Run A). state_at k due n (run_text k due q) ≡ Ok q) same (state-again due n r.entry (omega arith) h)
  line-again Two due before n r lt h l = rw (line-of-again due n r lt h, l) refl
