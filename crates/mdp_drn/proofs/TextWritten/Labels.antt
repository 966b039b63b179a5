-- Labels in quotes, as they are read.
use Rattle.std.proofs.Common.{◌≡◌, ℕ, zero, suc, ◌*◌, ◌≤◌, Bool, true, false, not, cond, eqb, ltb, leb, ◌&&◌, ◌||◌, List, [], ◌∷◌, ◌++◌, length, map}
use Rattle.std.proofs.{Common.{get_or, append_assoc, refl, ap, ap₂, ◌∙◌, arith, Ok, Err}, lemmas.Bool.{leb-true}, lemmas.Bool.Decides.{nat_tests}}
use Rattle.std.proofs.lemmas.List.{length-append}
use Rattle.std.specs.List.{list_all, list_any}
use Rattle.mdp_rows.specs.Name.{IsName}
use Rattle.mdp_drn.specs.{declared.error.DrnKind.TheVariants.{Label}, Lines.{is_line_feed, without_blanks_before}, Outcome.{◌>>=◌}}
use Rattle.mdp_drn.specs.{Labels.{is_quote, begins_blank, is_sized, quoted_at, quoted, labels_within, labels_in}, Writing.{label_text, labels_text}}
use Rattle.mdp_drn.proofs.TextWritten.Bytes.{Fail, and-parts, and-both, not-true, pass-append, pass-weaken, take-stop, drop-stop, none-any}

-- 1 to 255 bytes without a quote and a line feed
pub record IsLabel (name : List ℕ) : Type 0 where
  pub sized : is_sized name ≡ true
  pub short : length name ≤ 255
  pub no_quote : Fail is_quote name
  pub no_feed : Fail is_line_feed name

neither : (c : ℕ) → not (eqb c 34 || eqb c 10) ≡ true → not (is_quote c) ≡ true
neither c h = grind (arith, nat_tests)

nor : (c : ℕ) → not (eqb c 34 || eqb c 10) ≡ true → not (is_line_feed c) ≡ true
nor c h = grind (arith, nat_tests)

pub label-of : (name : List ℕ) → IsName name → IsLabel name
label-of name h =
    let a = and-parts (leb 1 (length name) && leb (length name) 255) (not (list_any (λ b. eqb b 34 || eqb b 10) name)) h in
    let b = and-parts (leb 1 (length name)) (leb (length name) 255) a.0 in
    let none = none-any (λ b. eqb b 34 || eqb b 10) name (not-true (list_any (λ b. eqb b 34 || eqb b 10) name) a.1) in
    record {
      sized = and-both (ltb 0 (length name)) (leb (length name) 255) (some (length name) b.0) b.1;
      short = leb-true (length name) 255 b.1;
      no_quote = pass-weaken (λ b. not (eqb b 34 || eqb b 10)) (λ b. not (is_quote b)) neither name none;
      no_feed = pass-weaken (λ b. not (eqb b 34 || eqb b 10)) (λ b. not (is_line_feed b)) nor name none;
    }
  where
    some : (n : ℕ) → leb 1 n ≡ true → ltb 0 n ≡ true
    some n h = grind (arith, nat_tests)

-- ---- the labels of a line

abbrev pub AreLabels : List (List ℕ) → Type 0
AreLabels [] = Unit {0}
AreLabels (name ∷ names) = IsLabel name × AreLabels names

abbrev pub quotes : List (List ℕ) → List ℕ
quotes [] = []
quotes (name ∷ names) = label_text name ++ quotes names

abbrev pub names_at : List (List ℕ) → List ℕ → List (List ℕ)
names_at labels places = map (λ l. get_or labels l []) places

pub labels_text-is : (labels : List (List ℕ)) (places : List ℕ) → labels_text labels places ≡ quotes (names_at labels places)
labels_text-is labels [] = refl
labels_text-is labels (l ∷ places) = ap (λ (t : List ℕ). label_text (get_or labels l []) ++ t) (labels_text-is labels places)

-- the first label, its quotes, and the others
pub quotes-more : (name : List ℕ) (names : List (List ℕ)) → quotes (name ∷ names) ≡ 32 ∷ 34 ∷ (name ++ 34 ∷ quotes names)
quotes-more name names = ap (λ (t : List ℕ). 32 ∷ 34 ∷ t) (append_assoc name (34 ∷ []) (quotes names))

blank-behind : (names : List (List ℕ)) → (eqb (length (quotes names)) 0 || begins_blank (quotes names)) ≡ true
blank-behind [] = refl
blank-behind (name ∷ names) = ap (λ (t : List ℕ). eqb (length t) 0 || begins_blank t) (quotes-more name names) ∙ by (length (name ++ 34 ∷ quotes names))
  where
    by : (n : ℕ) → (eqb (suc (suc n)) 0 || true) ≡ true
    by n = grind (arith, nat_tests)

quoted-is : (name rest : List ℕ) → IsLabel name → (eqb (length rest) 0 || begins_blank rest) ≡ true → quoted (name ++ 34 ∷ rest) ≡ Ok (name, rest)
quoted-is name rest h e =
    let stop : not (is_quote 34) ≡ false = refl in
    ap₂ quoted_at (take-stop (λ c. not (is_quote c)) name 34 rest h.no_quote refl) (drop-stop (λ c. not (is_quote c)) name 34 rest h.no_quote refl)
    ∙ ap (λ (b : Bool). cond b (Ok (name, rest)) (Err Label)) (and-both (is_sized name) (eqb (length rest) 0 || begins_blank rest) h.sized e)

labels-read : (count : ℕ) (names : List (List ℕ)) → length names ≤ count → AreLabels names → labels_within (suc count) (without_blanks_before (quotes names)) ≡ Ok names
labels-read count [] le h = refl
labels-read zero (name ∷ names) le h = absurd (omega arith)
labels-read (suc count) (name ∷ names) le h =
    ap (λ (t : List ℕ). labels_within (suc (suc count)) (without_blanks_before t)) (quotes-more name names)
    ∙ ap (λ r. r >>= λ label. labels_within (suc count) (without_blanks_before label.1) >>= λ others. Ok (label.0 ∷ others)) (quoted-is name (quotes names) h.0 (blank-behind names))
    ∙ ap (λ r. r >>= λ others. Ok (name ∷ others)) (labels-read count names (omega arith) h.1)

quotes-long : (names : List (List ℕ)) → length names ≤ length (quotes names)
quotes-long [] = omega arith
quotes-long (name ∷ names) = omega (arith, ap length (quotes-more name names), length-append name (34 ∷ quotes names), quotes-long names)

pub labels_in-quotes : (names : List (List ℕ)) → AreLabels names → labels_in (quotes names) ≡ Ok names
unfolding labels_in
labels_in-quotes names h = labels-read (length (quotes names)) names (quotes-long names) h

pub quotes-short : (names : List (List ℕ)) → AreLabels names → length (quotes names) ≤ 258 * length names
quotes-short [] h = omega arith
quotes-short (name ∷ names) h = omega (arith, IsLabel.short h.0, ap length (quotes-more name names), length-append name (34 ∷ quotes names), quotes-short names h.1)

pub quotes-no_feed : (names : List (List ℕ)) → AreLabels names → Fail is_line_feed (quotes names)
quotes-no_feed [] h = refl
quotes-no_feed (name ∷ names) h =
    ap (list_all (λ c. not (is_line_feed c))) (quotes-more name names)
    ∙ pass-append (λ c. not (is_line_feed c)) name (34 ∷ quotes names) (IsLabel.no_feed h.0) (quotes-no_feed names h.1)
