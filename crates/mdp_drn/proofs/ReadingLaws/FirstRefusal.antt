-- The first line that breaks a rule.
use Rattle.std.proofs.Common.{◌≡◌, ℕ, ◌⊎◌, inl, inr, List, [], ◌∷◌, ◌++◌, Result, Ok, Err, refl, ap, ◌∙◌}
use Rattle.mdp_rows.specs.declared.rule.RowRule.{RowRule}
use Rattle.mdp_drn.specs.{Lines.{lines_of}, Outcome.{◌>>=◌, Refusal}, Reading.{Document, nothing_read, at_line, at_end, after_lines}}
use Rattle.mdp_drn.specs.Laws.{BreaksInside, BreaksAtEnd, RefusedAtFirst, DependsOnNothingBehind}
use Rattle.mdp_spec.specs.Mdp.{Mdp}
use Rattle.mdp_drn.proofs.PiecesFed.StandGrows.{after_lines-append}

-- these lines, read behind a document, are stopped at one of them
record Stops (rule : RowRule) (d : Document) (lines : List (List ℕ)) (r : Refusal) : Type 0 where
  before : List (List ℕ)
  line : List ℕ
  behind : List (List ℕ)
  document : Document
  lines_are : lines ≡ before ++ line ∷ behind
  kept : after_lines rule d before ≡ Ok document
  broken : at_line rule document line ≡ Err r

stops : (rule : RowRule) (d : Document) (lines : List (List ℕ)) (r : Refusal) → after_lines rule d lines ≡ Err r → Stops rule d lines r
stops rule d [] r h = absurd cc
stops rule d (line ∷ lines) r h = by (at_line rule d line) refl h (λ e. stops rule e lines r)
  where
    by : (s : Result Document Refusal) → at_line rule d line ≡ s → (s >>= λ e. after_lines rule e lines) ≡ Err r
        → ((e : Document) → after_lines rule e lines ≡ Err r → Stops rule e lines r) → Stops rule d (line ∷ lines) r
    by (Ok e) is f rest =
        let w = rest e f in
        record {
          before = line ∷ w.before;
          line = w.line;
          behind = w.behind;
          document = w.document;
          lines_are = ap (λ (ls : List (List ℕ)). line ∷ ls) w.lines_are;
          kept = ap (λ (s : Result Document Refusal). s >>= λ x. after_lines rule x w.before) is ∙ w.kept;
          broken = w.broken;
        }
    by (Err q) is f rest = record { before = []; line = line; behind = lines; document = d; lines_are = refl; kept = refl; broken = is ∙ f }

at_first : (rule : RowRule) (lines : List (List ℕ)) (r : Refusal) (s : Result Document Refusal) → after_lines rule nothing_read lines ≡ s → (s >>= at_end) ≡ Err r
    → BreaksInside rule lines r ⊎ BreaksAtEnd rule lines r
at_first rule lines r (Ok d) is h = inr (record { document = d; kept = is; broken = h })
at_first rule lines r (Err q) is h =
    let w = stops rule nothing_read lines r (is ∙ bind-err q h) in
    inl (record { before = w.before; line = w.line; behind = w.behind; lines_are = w.lines_are; breaks = record { document = w.document; kept = w.kept; broken = w.broken } })
  where
    bind-err : (q : Refusal) → (let x : Result Mdp Refusal = Err q in x) ≡ Err r → (let x : Result Document Refusal = Err q in x) ≡ Err r
    bind-err q h = let e : q ≡ r = cc in ap (λ (x : Refusal). Err x) e

pub refused-at_first : RefusedAtFirst
refused-at_first bytes rule kind line h = at_first rule (lines_of bytes) (record { kind = kind; line = line }) (after_lines rule nothing_read (lines_of bytes)) refl h

pub behind-counts_not : DependsOnNothingBehind
behind-counts_not bytes rule before behind line refusal is b =
    ap (λ (ls : List (List ℕ)). after_lines rule nothing_read ls >>= at_end) is
    ∙ ap (λ (x : Result Document Refusal). x >>= at_end) (after_lines-append rule nothing_read before (line ∷ behind)
    ∙ ap (λ (x : Result Document Refusal). x >>= λ d. after_lines rule d (line ∷ behind)) b.kept
    ∙ ap (λ (x : Result Document Refusal). x >>= λ d. after_lines rule d behind) b.broken)
