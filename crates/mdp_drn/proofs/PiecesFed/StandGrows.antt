-- Where a feed stands, as its text grows.
use Rattle.std.proofs.Common.{◌≡◌, ℕ, zero, suc, ◌+◌, ◌<◌, ◌⊎◌, inl, inr, Bool, true, false, cond, ltb, List, [], ◌∷◌, ◌++◌, length, Result, Ok, Err}
use Rattle.std.proofs.{Common.{refl, sym, ap, subst, ◌∙◌, append_assoc, arith}, lemmas.List.{append-nil, length-append}, lemmas.Bool.Decides.{nat_tests}}
use Rattle.std.specs.List.{All}
use borrow.Author.Tests.{ltb-true}
use Rattle.mdp_drn.specs.{declared.error.DrnKind.TheVariants.{LongLine}, Lines.{is_line_feed, whole_lines, open_line, lines_of}, Outcome.{◌>>=◌, Refusal}}
use Rattle.mdp_drn.specs.Reading.{Document, nothing_read, named, longest_line, at_line, at_end, after_lines, outcome}
use Rattle.mdp_drn.specs.Feeding.{Refusing, Reading, stand_at, stand_from, stand_of}
use Rattle.mdp_rows.specs.declared.rule.RowRule.{RowRule}
use Rattle.mdp_drn.proofs.PiecesFed.Cutting.{whole-same, open-more, whole-more, open-none}

abbrev long : Document → Refusal
long draft = record { kind = LongLine; line = named (draft.lines + 1) }

-- ---- lines after lines

pub after_lines-append : (rule : RowRule) (d : Document) (xs ys : List (List ℕ)) → after_lines rule d (xs ++ ys) ≡ (after_lines rule d xs >>= λ e. after_lines rule e ys)
after_lines-append rule d [] ys = refl
after_lines-append rule d (x ∷ xs) ys = by (at_line rule d x) (λ e. after_lines-append rule e xs ys)
  where
    by : (r : Result Document Refusal) → ((e : Document) → after_lines rule e (xs ++ ys) ≡ (after_lines rule e xs >>= λ f. after_lines rule f ys))
        → (r >>= λ e. after_lines rule e (xs ++ ys)) ≡ ((r >>= λ e. after_lines rule e xs) >>= λ f. after_lines rule f ys)
    by (Ok e) rest = rest e
    by (Err r) rest = refl

bind-ok : (r : Result Document Refusal) → (r >>= λ e. Ok e) ≡ r
bind-ok (Ok x) = refl
bind-ok (Err e) = refl

after_one : (rule : RowRule) (d : Document) (xs : List (List ℕ)) (x : List ℕ) → after_lines rule d (xs ++ x ∷ []) ≡ (after_lines rule d xs >>= λ e. at_line rule e x)
after_one rule d xs x = after_lines-append rule d xs (x ∷ []) ∙ by (after_lines rule d xs)
  where
    by : (r : Result Document Refusal) → (r >>= λ e. after_lines rule e (x ∷ [])) ≡ (r >>= λ e. at_line rule e x)
    by (Ok e) = bind-ok (at_line rule e x)
    by (Err e) = refl

at_long : (rule : RowRule) (d : Document) (bytes : List ℕ) → longest_line < length bytes → at_line rule d bytes ≡ Err (long d)
unfolding at_line
at_long rule d bytes lt = let test : ltb longest_line (length bytes) ≡ true = grind (arith, nat_tests) in rw test refl

-- ---- what a stand says

cond-reading : (b : Bool) (r : Refusal) (e d : Document) (o tail : List ℕ) → cond b (Refusing r) (Reading e o) ≡ Reading d tail → (b ≡ false) × (e ≡ d) × (o ≡ tail)
cond-reading true r e d o tail h = absurd cc
cond-reading false r e d o tail h = (refl, cc, cc)

reading : (r : Result Document Refusal) (o : List ℕ) (d : Document) (tail : List ℕ) → stand_from r o ≡ Reading d tail → (r ≡ Ok d) × (o ≡ tail)
reading (Ok e) o d tail h = let c = cond-reading (ltb longest_line (length o)) (long e) e d o tail h in (ap (λ (x : Document). Ok x) c.1, c.2)
reading (Err e) o d tail h = absurd cc

cond-refusing : (b : Bool) (r s : Refusal) (e : Document) (o : List ℕ) → cond b (Refusing r) (Reading e o) ≡ Refusing s → (b ≡ true) × (r ≡ s)
cond-refusing true r s e o h = (refl, cc)
cond-refusing false r s e o h = absurd cc

refusing : (r : Result Document Refusal) (o : List ℕ) (s : Refusal) → stand_from r o ≡ Refusing s → (r ≡ Err s) ⊎ ((d : Document) × (r ≡ Ok d) × (longest_line < length o) × (long d ≡ s))
refusing (Ok e) o s h = let c = cond-refusing (ltb longest_line (length o)) (long e) s e o h in inr (e, refl, ltb-true _ _ c.0, c.1)
refusing (Err e) o s h = inl cc

stand_at-long : (d : Document) (o : List ℕ) → longest_line < length o → stand_at d o ≡ Refusing (long d)
stand_at-long d o lt = let test : ltb longest_line (length o) ≡ true = grind (arith, nat_tests) in rw test refl

-- ---- one step

module _ (rule : RowRule) (xs : List ℕ) where
  abbrev so_far : Result Document Refusal
  so_far = after_lines rule nothing_read (whole_lines xs)

  stand-same : (ys : List ℕ) → All (λ b. is_line_feed b ≡ false) ys → stand_of rule (xs ++ ys) ≡ stand_from so_far (open_line xs ++ ys)
  stand-same ys none = rw (whole-same xs ys none, open-more xs ys none) refl

  stand-line : stand_of rule (xs ++ 10 ∷ []) ≡ stand_from (so_far >>= λ d. at_line rule d (open_line xs)) []
  stand-line = rw (whole-more xs, open-none xs, after_one rule nothing_read (whole_lines xs) (open_line xs)) refl

  -- bytes of the open line
  pub stand-tail : (ys : List ℕ) (d : Document) (tail : List ℕ) → All (λ b. is_line_feed b ≡ false) ys → Reading d tail ≡ stand_of rule xs → stand_of rule (xs ++ ys) ≡ stand_at d (tail ++ ys)
  stand-tail ys d tail none at =
      let r = reading so_far (open_line xs) d tail (sym at) in
      stand-same ys none ∙ ap (λ (s : Result Document Refusal). stand_from s (open_line xs ++ ys)) r.0 ∙ ap (λ (o : List ℕ). stand_at d (o ++ ys)) r.1

  -- a line feed
  pub stand-closed : (d : Document) (tail : List ℕ) → Reading d tail ≡ stand_of rule xs → stand_of rule (xs ++ 10 ∷ []) ≡ stand_from (at_line rule d tail) []
  stand-closed d tail at =
      let r = reading so_far (open_line xs) d tail (sym at) in
      stand-line ∙ ap (λ (s : Result Document Refusal). stand_from (s >>= λ e. at_line rule e (open_line xs)) []) r.0 ∙ ap (λ (o : List ℕ). stand_from (at_line rule d o) []) r.1

  keeps-tail : (ys : List ℕ) (s : Refusal) → All (λ b. is_line_feed b ≡ false) ys → Refusing s ≡ stand_of rule xs → stand_of rule (xs ++ ys) ≡ Refusing s
  keeps-tail ys s none at =
      stand-same ys none ∙ elim (refusing so_far (open_line xs) s (sym at)) [
        | inl e ↦ ap (λ (r : Result Document Refusal). stand_from r (open_line xs ++ ys)) e
        | inr w ↦ ap (λ (r : Result Document Refusal). stand_from r (open_line xs ++ ys)) w.1
            ∙ stand_at-long w.0 (open_line xs ++ ys) (omega (arith, w.2, length-append (open_line xs) ys)) ∙ ap (λ (r : Refusal). Refusing r) w.3
      ]

  keeps-line : (s : Refusal) → Refusing s ≡ stand_of rule xs → stand_of rule (xs ++ 10 ∷ []) ≡ Refusing s
  keeps-line s at =
      stand-line ∙ elim (refusing so_far (open_line xs) s (sym at)) [
        | inl e ↦ ap (λ (r : Result Document Refusal). stand_from (r >>= λ d. at_line rule d (open_line xs)) []) e
        | inr w ↦ ap (λ (r : Result Document Refusal). stand_from (r >>= λ d. at_line rule d (open_line xs)) []) w.1
            ∙ ap (λ (r : Result Document Refusal). stand_from r []) (at_long rule w.0 (open_line xs) w.2) ∙ ap (λ (r : Refusal). Refusing r) w.3
      ]

  -- the end
  pub end-reading : (d : Document) (tail : List ℕ) → Reading d tail ≡ stand_of rule xs → outcome rule xs ≡ (cond (ltb 0 (length tail)) (at_line rule d tail) (Ok d) >>= at_end)
  end-reading d tail at =
      let r = reading so_far (open_line xs) d tail (sym at) in
      by (ltb 0 (length (open_line xs))) ∙ ap (λ (s : Result Document Refusal). cond (ltb 0 (length (open_line xs))) (s >>= λ e. at_line rule e (open_line xs)) s >>= at_end) r.0
      ∙ ap (λ (o : List ℕ). cond (ltb 0 (length o)) (at_line rule d o) (Ok d) >>= at_end) r.1
    where
      by : (b : Bool) → (after_lines rule nothing_read (whole_lines xs ++ cond b (open_line xs ∷ []) []) >>= at_end) ≡ (cond b (so_far >>= λ e. at_line rule e (open_line xs)) so_far >>= at_end)
      by true = ap (λ (s : Result Document Refusal). s >>= at_end) (after_one rule nothing_read (whole_lines xs) (open_line xs))
      by false = ap (λ (ls : List (List ℕ)). after_lines rule nothing_read ls >>= at_end) (append-nil (whole_lines xs))

  pub end-refusing : (s : Refusal) → Refusing s ≡ stand_of rule xs → outcome rule xs ≡ Err s
  end-refusing s at =
      elim (refusing so_far (open_line xs) s (sym at)) [
        | inl e ↦ ap (λ (r : Result Document Refusal). r >>= at_end)
            (after_lines-append rule nothing_read (whole_lines xs) (cond (ltb 0 (length (open_line xs))) (open_line xs ∷ []) [])
            ∙ ap (λ (r : Result Document Refusal). r >>= λ d. after_lines rule d (cond (ltb 0 (length (open_line xs))) (open_line xs ∷ []) [])) e)
        | inr w ↦
            let some : ltb 0 (length (open_line xs)) ≡ true = (let l : longest_line < length (open_line xs) = w.2 in grind (arith, nat_tests)) in
            let e : lines_of xs ≡ whole_lines xs ++ open_line xs ∷ [] = ap (λ (b : Bool). whole_lines xs ++ cond b (open_line xs ∷ []) []) some in
            ap (λ (ls : List (List ℕ)). after_lines rule nothing_read ls >>= at_end) e
            ∙ ap (λ (r : Result Document Refusal). r >>= at_end)
            (after_one rule nothing_read (whole_lines xs) (open_line xs)
            ∙ ap (λ (r : Result Document Refusal). r >>= λ d. at_line rule d (open_line xs)) w.1 ∙ at_long rule w.0 (open_line xs) w.2)
            ∙ ap (λ (r : Refusal). Err r) w.3
      ]

All-one : (P : ℕ → Type 0) (y : ℕ) → P y → All P (y ∷ [])
All-one P y h zero d lt = h
All-one P y h (suc k) d lt = absurd (omega arith)

-- a refusal stays
pub keeps : (rule : RowRule) (xs ys : List ℕ) (s : Refusal) → Refusing s ≡ stand_of rule xs → Refusing s ≡ stand_of rule (xs ++ ys)
keeps rule xs [] s at = at ∙ ap (stand_of rule) (sym (append-nil xs))
keeps rule xs (y ∷ ys) s at = subst (λ (zs : List ℕ). Refusing s ≡ stand_of rule zs) (append_assoc xs (y ∷ []) ys) (keeps rule (xs ++ y ∷ []) ys s (by (is_line_feed y) refl))
  where
    by : (b : Bool) → is_line_feed y ≡ b → Refusing s ≡ stand_of rule (xs ++ y ∷ [])
    by true e = let is : y ≡ 10 = grind (arith, nat_tests) in subst (λ (c : ℕ). Refusing s ≡ stand_of rule (xs ++ c ∷ [])) (sym is) (sym (keeps-line rule xs s at))
    by false e = sym (keeps-tail rule xs (y ∷ []) s (All-one (λ b. is_line_feed b ≡ false) y e) at)

-- a whole line, where no bytes of it came before
pub stand-whole : (rule : RowRule) (xs ys : List ℕ) (d : Document) → All (λ b. is_line_feed b ≡ false) ys → Reading d [] ≡ stand_of rule xs
    → stand_of rule (xs ++ (ys ++ 10 ∷ [])) ≡ stand_from (at_line rule d ys) []
stand-whole rule xs ys d none at = subst (λ (zs : List ℕ). stand_of rule zs ≡ stand_from (at_line rule d ys) []) (append_assoc xs ys (10 ∷ [])) (by (ltb longest_line (length ys)) refl)
  where
    by : (b : Bool) → ltb longest_line (length ys) ≡ b → stand_of rule ((xs ++ ys) ++ 10 ∷ []) ≡ stand_from (at_line rule d ys) []
    by true e =
        keeps-line rule (xs ++ ys) (long d) (sym (stand-tail rule xs ys d [] none at ∙ stand_at-long d ys (ltb-true _ _ e)))
        ∙ sym (ap (λ (r : Result Document Refusal). stand_from r []) (at_long rule d ys (ltb-true _ _ e)))
    by false e =
        stand-closed rule (xs ++ ys) d ys
        (sym (stand-tail rule xs ys d [] none at ∙ ap (λ (b : Bool). cond b (Refusing (long d)) (Reading d ys)) e))
