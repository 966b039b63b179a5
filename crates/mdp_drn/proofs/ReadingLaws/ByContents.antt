-- A text is read by the contents of its lines, without the comments.
use Rattle.std.proofs.Common.{◌≡◌, ℕ, suc, ◌+◌, ◌≤◌, Bool, true, false, not, cond, ltb, List, [], ◌∷◌, length, Result, Ok, Err, refl, ap, sym, ◌∙◌, arith}
use Rattle.std.proofs.lemmas.Bool.Decides.{nat_tests}
use Rattle.mdp_spec.specs.Mdp.{Mdp}
use Rattle.mdp_rows.specs.declared.rule.RowRule.{RowRule}
use Rattle.mdp_drn.specs.{Lines.{lines_of, content, is_comment}, Outcome.{◌>>=◌, Refusal}, Header.{no_entries, AnyEntry}}
use Rattle.mdp_drn.specs.Reading.{Part, InHeader, Document, nothing_read, named, longest_line, kept_line, at_line, at_end_of, at_end, after_lines, outcome}
use Rattle.mdp_drn.specs.Laws.{contents_of, AreShort, without_line, IsReadByContents}
use Rattle.mdp_drn.proofs.{ReadingLaws.Renumbered.{refusal-at, result-at, part-at, kept_line-at, at_end-at, doc}, ReadingLaws.LineNumbers.{comment-read}}

-- line numbers forgotten
abbrev none : ℕ → ℕ
none n = 0

abbrev part_in : Result Document Refusal → Result Part Refusal
part_in (Ok d) = Ok (part-at none d.part)
part_in (Err r) = Err (refusal-at none r)

abbrev after_contents : RowRule → List (List ℕ) → Part → Result Part Refusal
after_contents rule [] part = Ok part
after_contents rule (text ∷ texts) part = kept_line rule 0 text part >>= after_contents rule texts

line-kept : (rule : RowRule) (d : Document) (line : List ℕ) → is_comment (content line) ≡ false → length line ≤ longest_line
    → at_line rule d line ≡ (kept_line rule (named (d.lines + 1)) (content line) d.part >>= λ p. Ok (doc (named (d.lines + 1)) p))
unfolding at_line
line-kept rule d line is short =
    let fits : ltb longest_line (length line) ≡ false = grind (arith, nat_tests) in
    rw (fits, is) refl

-- what these lines come to, behind any others
abbrev ByContents : RowRule → List (List ℕ) → Type 0
ByContents rule lines = (d : Document) → part_in (after_lines rule d lines) ≡ after_contents rule (contents_of lines) (part-at none d.part)

by_contents : (rule : RowRule) (lines : List (List ℕ)) (d : Document) → AreShort lines → part_in (after_lines rule d lines) ≡ after_contents rule (contents_of lines) (part-at none d.part)
by_contents rule [] d short = refl
by_contents rule (line ∷ lines) d short = by (is_comment (content line)) refl (λ e. by_contents rule lines e (λ k f lt. short (suc k) f (omega arith)))
  where
    fits : length line ≤ longest_line
    fits = short 0 line (omega arith)

    kept : (n : ℕ) (r : Result Part Refusal) → ByContents rule lines
        → part_in ((r >>= λ p. Ok (doc n p)) >>= λ e. after_lines rule e lines) ≡ (result-at none (part-at none) r >>= after_contents rule (contents_of lines))
    kept n (Ok p) rest = rest (doc n p)
    kept n (Err e) rest = refl

    by : (b : Bool) → is_comment (content line) ≡ b → ByContents rule lines
        → part_in (at_line rule d line >>= λ e. after_lines rule e lines) ≡ after_contents rule (cond (not b) (content line ∷ contents_of lines) (contents_of lines)) (part-at none d.part)
    by true is rest =
        ap (λ (x : Result Document Refusal). part_in (x >>= λ e. after_lines rule e lines)) (comment-read rule d line is fits)
        ∙ rest (doc (named (d.lines + 1)) d.part)
    by false is rest =
        ap (λ (x : Result Document Refusal). part_in (x >>= λ e. after_lines rule e lines)) (line-kept rule d line is fits)
        ∙ kept (named (d.lines + 1)) (kept_line rule (named (d.lines + 1)) (content line) d.part) rest
        ∙ ap (λ (x : Result Part Refusal). x >>= after_contents rule (contents_of lines)) (sym (kept_line-at none refl rule (named (d.lines + 1)) (content line) d.part))

forgets : (r : Result Mdp Refusal) → without_line (result-at none (λ m. m) r) ≡ without_line r
forgets (Ok m) = refl
forgets (Err e) = refl

ended : (x : Result Document Refusal) → without_line (x >>= at_end) ≡ without_line (part_in x >>= at_end_of 0)
unfolding at_end
ended (Ok d) = sym (ap without_line (at_end-at none (named (d.lines + 1)) d.part) ∙ forgets (at_end_of (named (d.lines + 1)) d.part))
ended (Err r) = refl

by-text : (rule : RowRule) (bytes : List ℕ) → AreShort (lines_of bytes)
    → without_line (outcome rule bytes) ≡ without_line (after_contents rule (contents_of (lines_of bytes)) (InHeader no_entries AnyEntry) >>= at_end_of 0)
by-text rule bytes short =
    ended (after_lines rule nothing_read (lines_of bytes))
    ∙ ap (λ (x : Result Part Refusal). without_line (x >>= at_end_of 0)) (by_contents rule (lines_of bytes) nothing_read short)

pub read-by_contents : IsReadByContents
read-by_contents bytes others rule short also same =
    by-text rule bytes short
    ∙ ap (λ (cs : List (List ℕ)). without_line (after_contents rule cs (InHeader no_entries AnyEntry) >>= at_end_of 0)) same
    ∙ sym (by-text rule others also)
