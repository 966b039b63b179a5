-- One more line of states: the entries read so far, followed by what the other lines give.
use Rattle.std.proofs.Common.{◌≡◌, ℕ, zero, suc, ◌+◌, ◌-◌, ◌<◌, ◌≤◌, true, false, cond, ltb, List, []}
use Rattle.std.proofs.{Common.{◌++◌, Option, Some, None, Result, Ok, Err, refl, sym, ap, ◌∙◌, append_assoc, arith}, Math.ListN.{replicate}}
use Rattle.std.proofs.{lemmas.Bool.{lt-ltb}, lemmas.Bool.Decides.{nat_tests}, lemmas.List.{append-nil}}
use Rattle.mdp_text.specs.{declared.error.Refusal.{Refusal}, Lines.{◌>>=◌, Place, next_line, line_by}}
use Rattle.mdp_cert.specs.{declared.version.Version.{Version}, Runs.{Columns, Run, run, entries_of}, Reading.{run_in, onto_run, runs_from, entries_from}}

module _ {A : Type 0} (v : Version) (k : Columns A) (states : ℕ) where
  abbrev pub onto : List A → Result (List (Run A) × Place) Refusal → Result (List A × Place) Refusal
  onto xs r = r >>= λ p. Ok (xs ++ entries_of p.0, p.1)

  more_lines : ℕ → ℕ → Run A × Place → Result (List (Run A) × Place) Refusal
  more_lines most due said = onto_run said.0 (runs_from most v k states (due + said.0.more + 1) (Some said.0.entry) said.1)

  -- more lines than states are due make no difference
  enough : (a b due : ℕ) (before : Option A) (p : Place) → states ≤ due + a → states ≤ due + b → runs_from a v k states due before p ≡ runs_from b v k states due before p
  unfolding runs_from
  enough zero zero due before p h i = refl
  enough zero (suc b) due before p h i = let none : ltb due states ≡ false = grind (arith, nat_tests) in rw none refl
  enough (suc a) zero due before p h i = let none : ltb due states ≡ false = grind (arith, nat_tests) in rw none refl
  enough (suc a) (suc b) due before p h i = by (line_by (run_in v k states due before) p) (λ said. enough a b (due + said.0.more + 1) (Some said.0.entry) said.1 (omega arith) (omega arith))
    where
      by : (r : Result (Run A × Place) Refusal)
          → ((said : Run A × Place) → runs_from a v k states (due + said.0.more + 1) (Some said.0.entry) said.1 ≡ runs_from b v k states (due + said.0.more + 1) (Some said.0.entry) said.1)
          → cond (ltb due states) (r >>= λ said. onto_run said.0 (runs_from a v k states (due + said.0.more + 1) (Some said.0.entry) said.1)) (Ok ([], p)) ≡ cond
          (ltb due states) (r >>= λ said. onto_run said.0 (runs_from b v k states (due + said.0.more + 1) (Some said.0.entry) said.1)) (Ok ([], p))
      by (Err e) same = refl
      by (Ok said) same = ap (λ (x : Result (List (Run A) × Place) Refusal). cond (ltb due states) (onto_run said.0 x) (Ok ([], p))) (same said)

  pub first-line : (p : Place) → onto [] (runs_from (states - 0) v k states 0 None p) ≡ entries_from v k states p
  unfolding entries_from
  first-line p = let all : states - 0 ≡ states = omega arith in rw all refl

  onto-run : (xs : List A) (x : A) (more : ℕ) (r : Result (List (Run A) × Place) Refusal) → onto xs (onto_run (run x more) r) ≡ onto (xs ++ replicate (suc more) x) r
  onto-run xs x more (Err e) = refl
  onto-run xs x more (Ok p) = ap (λ (ys : List A). let q : Result (List A × Place) Refusal = Ok (ys, p.1) in q) (sym (append_assoc xs (replicate (suc more) x) (entries_of p.0)))

  one-left : (due : ℕ) → due < states → states - due ≡ suc (states - (due + 1))
  one-left due lt = omega arith

  pub next-run : (xs : List A) (due next : ℕ) (before : Option A) (p q : Place) (text : List ℕ) (x : A) (more : ℕ) → due < states → next_line p ≡ Ok (text, q)
      → run_in v k states due before p.line text ≡ Ok (run x more) → next ≡ due + (more + 1)
      → onto xs (runs_from (states - due) v k states due before p) ≡ onto (xs ++ replicate (more + 1) x) (runs_from (states - next) v k states next (Some x) q)
  unfolding runs_from
  next-run xs due next before p q text x more lt line said e =
      let some : ltb due states ≡ true = lt-ltb due states lt in
      let same : due + more + 1 ≡ next = omega arith in
      let one : more + 1 ≡ suc more = omega arith in
      rw (one-left due lt, some, line, said) (onto-run xs x more (runs_from (states - (due + 1)) v k states (due + more + 1) (Some x) q)
      ∙ ap (onto (xs ++ replicate (suc more) x)) (enough (states - (due + 1)) (states - next) (due + more + 1) (Some x) q (omega arith) (omega arith) ∙ ap
      (λ (d : ℕ). runs_from (states - next) v k states d (Some x) q) same)
      ∙ ap (λ (m : ℕ). onto (xs ++ replicate m x) (runs_from (states - next) v k states next (Some x) q)) (sym one))

  pub no-line : (xs : List A) (due : ℕ) (before : Option A) (p : Place) (e : Refusal) → due < states → next_line p ≡ Err e → onto xs (runs_from (states - due) v k states due before p) ≡ Err e
  unfolding runs_from
  no-line xs due before p e lt line = let some : ltb due states ≡ true = lt-ltb due states lt in rw (one-left due lt, some, line) refl

  pub no-run : (xs : List A) (due : ℕ) (before : Option A) (p q : Place) (text : List ℕ) (e : Refusal) → due < states → next_line p ≡ Ok (text, q)
      → run_in v k states due before p.line text ≡ Err e → onto xs (runs_from (states - due) v k states due before p) ≡ Err e
  unfolding runs_from
  no-run xs due before p q text e lt line said = let some : ltb due states ≡ true = lt-ltb due states lt in rw (one-left due lt, some, line, said) refl

  pub last-line : (xs : List A) (due : ℕ) (before : Option A) (p : Place) → states ≤ due → onto xs (runs_from (states - due) v k states due before p) ≡ Ok (xs, p)
  unfolding runs_from
  last-line xs due before p le = let none : states - due ≡ 0 = omega arith in rw none (ap (λ (ys : List A). let q : Result (List A × Place) Refusal = Ok (ys, p) in q) (append-nil xs))
