-- Labels, given one after the other.
use Rattle.std.proofs.Common.{◌≡◌, ℕ, zero, suc, ◌+◌, ◌<◌, List, [], ◌∷◌, drop, get_or, length, map, Result, Ok, Err, refl, sym, ap, subst, ◌∙◌, arith}
use Rattle.std.specs.{Borrow.{Bor}, List.{All}}
use Rattle.mdp_rows.specs.{Draft.{Draft, after_label, ◌>>=◌}, Name.{IsName}, declared.error.RowsError.{RowsError}}
use Rattle.mdp_rows.specs.declared.error.RowsError.TheVariants as rows
use Rattle.mdp_drn.specs.{declared.error.DrnError.{DrnError}, Body.{judged, with_labels}, Feeding.{Fails}}
use Rattle.mdp_drn.specs.declared.error.DrnError.TheVariants as error
use Rattle.mdp_drn.specs.Body as spec
use Rattle.mdp_drn.proofs.LinesRead.Listing.{map-at}

abbrev pub names : List (Bor (List ℕ)) → List (List ℕ)
names labels = map (λ label. label.now) labels

pub names-at : (labels : List (Bor (List ℕ))) (i : ℕ) (d : Bor (List ℕ)) → i < length labels → drop i (names labels) ≡ (get_or labels i d).now ∷ drop (i + 1) (names labels)
names-at labels i d lt = map-at (λ label. label.now) labels i d lt

pub name-at : (labels : List (Bor (List ℕ))) (i : ℕ) (d : Bor (List ℕ)) → i < length labels → All IsName (names labels) → IsName (get_or labels i d).now
name-at [] i d lt all = absurd (omega arith)
name-at (x ∷ xs) zero d lt all = all 0 x.now (omega arith)
name-at (x ∷ xs) (suc i) d lt all = name-at xs i d (omega arith) (λ k e less. all (suc k) e (omega arith))

-- ---- refusals

same_lines : (a b : spec.Body) (line : ℕ) (e : RowsError) → a.state_line ≡ b.state_line → a.action_line ≡ b.action_line → spec.line_of a line e ≡ spec.line_of b line e
same_lines a b line (rows.RowSum s c) p q = q
same_lines a b line (rows.RowWide s c) p q = q
same_lines a b line rows.Twice p q = refl
same_lines a b line (rows.NoChoice s) p q = p
same_lines a b line rows.TooMany p q = refl
same_lines a b line rows.Target p q = refl
same_lines a b line rows.Large p q = refl
same_lines a b line rows.Count p q = refl
same_lines a b line rows.Memory p q = refl

pub judged-same : (a b : spec.Body) (line : ℕ) (r : Result Draft RowsError) → a.state_line ≡ b.state_line → a.action_line ≡ b.action_line → judged a line r ≡ judged b line r
judged-same a b line (Ok d) p q = refl
judged-same a b line (Err e) p q = ap (λ (n : ℕ). Err (record { kind = spec.kind_of e; line = n })) (same_lines a b line e p q)

pub judged-ok : (a : spec.Body) (line : ℕ) (r : Result Draft RowsError) (d : Draft) → judged a line r ≡ Ok d → r ≡ Ok d
judged-ok a line (Ok e) d h = let k : e ≡ d = cc in ap (λ (x : Draft). Ok x) k
judged-ok a line (Err e) d h = absurd cc

fails-more : (a : spec.Body) (line : ℕ) (r : Result Draft RowsError) (f : Draft → Result Draft RowsError) (said : DrnError) → Fails said (judged a line r) → Fails said (judged a line (r >>= f))
fails-more a line r f error.Memory h = tt
fails-more a line (Ok d) f (error.At n kind) h = absurd cc
fails-more a line (Err e) f (error.At n kind) h = h

-- ---- one label

module _ (labels : List (Bor (List ℕ))) (i : ℕ) (d : Bor (List ℕ)) (lt : i < length labels) (x : Result Draft RowsError) (draft : Draft) where
  pub one_given : (e : Draft) → x ≡ with_labels (drop i (names labels)) draft → after_label draft (get_or labels i d).now ≡ Ok e → x ≡ with_labels (drop (i + 1) (names labels)) e
  one_given e so_far is =
      so_far ∙ ap (λ (ns : List (List ℕ)). with_labels ns draft) (names-at labels i d lt) ∙ ap (λ (r : Result Draft RowsError). r >>= with_labels (drop (i + 1) (names labels))) is

  pub one_refused : (a : spec.Body) (line : ℕ) (said : DrnError) → x ≡ with_labels (drop i (names labels)) draft
      → Fails said (judged a line (after_label draft (get_or labels i d).now)) → Fails said (judged a line x)
  one_refused a line said so_far h =
      subst (λ (r : Result Draft RowsError). Fails said (judged a line r)) (sym (so_far ∙ ap (λ (ns : List (List ℕ)). with_labels ns draft) (names-at labels i d lt)))
      (fails-more a line (after_label draft (get_or labels i d).now) (with_labels (drop (i + 1) (names labels))) said h)
