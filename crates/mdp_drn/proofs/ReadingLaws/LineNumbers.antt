-- Which lines a refusal can name, and what a comment does to their numbers.
use Rattle.std.proofs.Common.{◌≡◌, ℕ, suc, ◌+◌, ◌^◌, ◌<◌, ◌≤◌, min, true, false, ltb, List, [], ◌∷◌, ◌++◌, length, Result, Ok, Err}
use Rattle.std.proofs.{Common.{refl, ap, ap₂, subst, sym, ◌∙◌, arith, length-append}, lemmas.Bool.Decides.{nat_tests}}
use Rattle.mdp_spec.specs.Mdp.{Mdp}
use Rattle.mdp_rows.specs.declared.rule.RowRule.{RowRule}
use Rattle.mdp_drn.specs.{Lines.{lines_of, content, is_comment}, Outcome.{◌>>=◌, Refusal}, Header.{no_entries, AnyEntry}}
use Rattle.mdp_drn.specs.Reading.{Part, InHeader, InModel, Document, nothing_read, named, longest_line, at_line, at_end, after_lines, outcome}
use Rattle.mdp_drn.specs.Laws.{NamesNoLaterLine, NamesLineOfText, moved, with_moved, IsMovedByComment}
use Rattle.mdp_drn.proofs.PiecesFed.StandGrows.{after_lines-append}
use Rattle.mdp_drn.proofs.ReadingLaws.Renumbered.{refusal-at, result-at, part-at, doc, Renumbers, Matches, lines-match, outcome-at}

abbrev start : Part
start = InHeader no_entries AnyEntry

-- ---- no number is greater than that of the last line

abbrev most : ℕ → ℕ → ℕ
most l n = min n l

abbrev Within : ℕ → ℕ → ℕ → ℕ → Type 0
Within l m j k = (j ≡ k) × (j + m ≤ l)

within-start : (l : ℕ) → min 0 l ≡ 0
within-start l = omega arith

within-next : (l m j k : ℕ) → Within l (suc m) j k → (min (named (j + 1)) l ≡ named (k + 1)) × Within l m (named (j + 1)) (named (k + 1))
within-next l m j k r =
    let low : named (j + 1) ≤ j + 1 = omega arith in
    let e : j ≡ k = r.0 in
    let le : j + suc m ≤ l = r.1 in
    let same : named (j + 1) ≡ named (k + 1) = ap (λ (n : ℕ). named (n + 1)) e in
    (least (named (j + 1)) l (omega arith) ∙ same, (same, omega arith))
  where
    least : (n l : ℕ) → n ≤ l → min n l ≡ n
    least n l h = omega arith

within : (l : ℕ) → Renumbers (most l) (Within l)
within l = record { start = within-start l; next = within-next l }

lines-same : (rule : RowRule) (lines : List (List ℕ)) → Matches (most (length lines)) (Within (length lines) 0) (after_lines rule nothing_read lines) (after_lines rule nothing_read lines)
lines-same rule lines = lines-match (most (length lines)) (Within (length lines)) (within (length lines)) rule 0 0 0 start lines (refl, omega arith)

low-line : (l : ℕ) (r : Refusal) → r ≡ refusal-at (most l) r → r.line ≤ l
low-line l r e = let n : r.line ≡ min r.line l = ap (λ (q : Refusal). q.line) e in omega arith

-- where lines are refused
refused-low : (rule : RowRule) (lines : List (List ℕ)) (r : Refusal) → after_lines rule nothing_read lines ≡ Err r → r.line ≤ length lines
refused-low rule lines r h =
    low-line (length lines) r (subst (λ (x : Result Document Refusal). Matches (most (length lines)) (Within (length lines) 0) x x) h (lines-same rule lines))

-- where they are read
read-low : (rule : RowRule) (lines : List (List ℕ)) (d : Document) → after_lines rule nothing_read lines ≡ Ok d → d.part ≡ part-at (most (length lines)) d.part
read-low rule lines d h = (subst (λ (x : Result Document Refusal). Matches (most (length lines)) (Within (length lines) 0) x x) h (lines-same rule lines)).1

bind-ok : (r : Result Document Refusal) → (r >>= λ d. Ok d) ≡ r
bind-ok (Ok d) = refl
bind-ok (Err e) = refl

pub names-no_later : NamesNoLaterLine
names-no_later rule before line refusal b =
    let h : after_lines rule nothing_read (before ++ line ∷ []) ≡ Err refusal =
    after_lines-append rule nothing_read before (line ∷ [])
    ∙ ap (λ (x : Result Document Refusal). x >>= λ d. after_lines rule d (line ∷ [])) b.kept
    ∙ bind-ok (at_line rule b.document line) ∙ b.broken in
    omega (arith, refused-low rule (before ++ line ∷ []) refusal h, length-append before (line ∷ []))

pub names-line_of_text : NamesLineOfText
names-line_of_text bytes rule kind line h =
    let lines : List (List ℕ) = lines_of bytes in
    let l : ℕ = length lines + 1 in
    let r : Refusal = record { kind = kind; line = line } in
    let e = outcome-at (most (length (lines_of bytes) + 1)) (Within (length (lines_of bytes) + 1)) (within (length (lines_of bytes) + 1)) rule 0 0 start (lines_of bytes) (refl, omega arith) in
    by (outcome rule bytes) h e
  where
    by : (x : Result Mdp Refusal) → x ≡ Err (record { kind = kind; line = line }) → x ≡ result-at (most (length (lines_of bytes) + 1)) (λ m. m) x → line ≤ length (lines_of bytes) + 1
    by (Ok m) is e = absurd cc
    by (Err q) is e =
        let same : q ≡ record { kind = kind; line = line } = cc in
        let n : q.line ≡ line = ap (λ (p : Refusal). p.line) same in
        let low : q.line ≤ length (lines_of bytes) + 1 = low-line (length (lines_of bytes) + 1) q (let k : q ≡ refusal-at (most (length (lines_of bytes) + 1)) q = cc in k) in
        omega arith

-- ---- how many lines were read

abbrev Exactly : ℕ → ℕ → ℕ → ℕ → Type 0
Exactly t m j k = (j ≡ k) × (j + m ≡ t)

exactly-next : (t m j k : ℕ) → t < 2 ^ 64 → Exactly t (suc m) j k → (named (j + 1) ≡ named (k + 1)) × Exactly t m (named (j + 1)) (named (k + 1))
exactly-next t m j k few r =
    let e : j ≡ k = r.0 in
    let is : j + suc m ≡ t = r.1 in
    let same : named (j + 1) ≡ named (k + 1) = ap (λ (n : ℕ). named (n + 1)) e in
    let plain : named (j + 1) ≡ j + 1 = omega arith in
    (same, (same, omega arith))

same_part : (p : Part) → part-at (λ n. n) p ≡ p
same_part (InHeader header next) = refl
same_part (InModel choices b) = refl

count-read : (rule : RowRule) (lines : List (List ℕ)) (d : Document) → length lines < 2 ^ 64 → after_lines rule nothing_read lines ≡ Ok d → d.lines ≡ length lines
count-read rule lines d few h =
    let n : ℕ = length lines in
    let same : Renumbers (λ n. n) (Exactly (length lines)) = record { start = refl; next = λ m j k r. exactly-next (length lines) m j k few r } in
    let w = lines-match (λ n. n) (Exactly (length lines)) same rule 0 0 0 start lines (refl, omega arith) in
    let e : Exactly (length lines) 0 d.lines d.lines = (subst (λ (x : Result Document Refusal). Matches (λ n. n) (Exactly (length lines) 0) x x) h w).0 in
    omega (arith, e.1)

-- ---- a comment

abbrev Behind : ℕ → ℕ → ℕ → ℕ → Type 0
Behind n m j k = (k ≡ j + 1) × (n ≤ j) × (j + m + 1 < 2 ^ 64)

moved-more : (n l : ℕ) → n < l → moved n l ≡ l + 1
moved-more n l h = grind (arith, nat_tests)

moved-same : (n l : ℕ) → l ≤ n → moved n l ≡ l
moved-same n l h = grind (arith, nat_tests)

behind-next : (n m j k : ℕ) → Behind n (suc m) j k → (moved n (named (j + 1)) ≡ named (k + 1)) × Behind n m (named (j + 1)) (named (k + 1))
behind-next n m j k r =
    let e : k ≡ j + 1 = r.0 in
    let le : n ≤ j = r.1 in
    let few : j + suc m + 1 < 2 ^ 64 = r.2 in
    let one : named (j + 1) ≡ j + 1 = omega arith in
    let two : named (k + 1) ≡ k + 1 = omega arith in
    (ap (moved n) one ∙ moved-more n (j + 1) (omega arith) ∙ omega arith, (omega arith, omega arith, omega arith))

behind-law : (n : ℕ) → Renumbers (moved n) (Behind n)
behind-law n = record { start = moved-same n 0 (omega arith); next = behind-next n }

-- the numbers so far stay
part-same : (n : ℕ) (p : Part) → part-at (moved n) (part-at (most n) p) ≡ part-at (most n) p
part-same n (InHeader header next) = refl
part-same n (InModel choices b) =
    ap₂ (λ (s a : ℕ). InModel choices (record b { state_line = s; action_line = a }))
    (moved-same n (min b.state_line n) (omega arith)) (moved-same n (min b.action_line n) (omega arith))

moved-is : (n : ℕ) (x : Result Mdp Refusal) → result-at (moved n) (λ m. m) x ≡ with_moved n x
moved-is n (Ok m) = refl
moved-is n (Err r) = refl

pub comment-read : (rule : RowRule) (d : Document) (comment : List ℕ) → is_comment (content comment) ≡ true
    → length comment ≤ longest_line → at_line rule d comment ≡ Ok (doc (named (d.lines + 1)) d.part)
unfolding at_line
comment-read rule d comment is short =
    let fits : ltb longest_line (length comment) ≡ false = grind (arith, nat_tests) in
    rw (fits, is) refl

pub moved-by_comment : IsMovedByComment
moved-by_comment bytes others rule before behind comment p q is short few =
    let n : ℕ = length before in
    let fits : length before + (length behind + 1) + 1 < 2 ^ 64 = omega (arith, ap length q, length-append before (comment ∷ behind)) in
    from_others ∙ by (after_lines rule nothing_read before) refl ∙ ap (with_moved (length before)) (sym from_bytes)
  where
    from_bytes : outcome rule bytes ≡ ((after_lines rule nothing_read before >>= λ d. after_lines rule d behind) >>= at_end)
    from_bytes = ap (λ (ls : List (List ℕ)). after_lines rule nothing_read ls >>= at_end) p
        ∙ ap (λ (x : Result Document Refusal). x >>= at_end) (after_lines-append rule nothing_read before behind)

    from_others : outcome rule others ≡ ((after_lines rule nothing_read before >>= λ d. after_lines rule d (comment ∷ behind)) >>= at_end)
    from_others =
        ap (λ (ls : List (List ℕ)). after_lines rule nothing_read ls >>= at_end) q
        ∙ ap (λ (x : Result Document Refusal). x >>= at_end) (after_lines-append rule nothing_read before (comment ∷ behind))

    by : (x : Result Document Refusal) → after_lines rule nothing_read before ≡ x
        → ((x >>= λ d. after_lines rule d (comment ∷ behind)) >>= at_end) ≡ with_moved (length before) ((x >>= λ d. after_lines rule d behind) >>= at_end)
    by (Err r) h = ap (λ (l : ℕ). Err (record r { line = l })) (sym (moved-same (length before) r.line (refused-low rule before r h)))
    by (Ok d) h =
        let n : ℕ = length before in
        let fits : length before + (length behind + 1) + 1 < 2 ^ 64 = omega (arith, ap length q, length-append before (comment ∷ behind)) in
        let count : d.lines ≡ length before = count-read rule before d (omega arith) h in
        let low : d.part ≡ part-at (most (length before)) d.part = read-low rule before d h in
        let kept : part-at (moved (length before)) d.part ≡ d.part = ap (part-at (moved (length before))) low ∙ part-same (length before) d.part ∙ sym low in
        let next : named (d.lines + 1) ≡ d.lines + 1 = omega arith in
        let e = outcome-at (moved (length before)) (Behind (length before)) (behind-law (length before)) rule d.lines (d.lines + 1) d.part behind (refl, omega arith, omega arith) in
        ap (λ (x : Result Document Refusal). (x >>= λ d. after_lines rule d behind) >>= at_end) (comment-read rule d comment is short)
        ∙ ap₂ (λ (l : ℕ) (part : Part). after_lines rule (doc l part) behind >>= at_end) next (sym kept)
        ∙ e ∙ moved-is (length before) (after_lines rule d behind >>= at_end)
