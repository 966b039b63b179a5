-- The line of a state, as it is read.
use Rattle.std.proofs.Common.{◌≡◌, ℕ, ◌<◌, ◌≤◌, Bool, true, false, not, eqb, ltb, leb, eq-eqb, ◌||◌, List, [], ◌∷◌, ◌++◌, length, decimal, codes}
use Rattle.std.proofs.{Common.{append_assoc, refl, sym, ap, ap₂, subst, ◌∙◌, arith, Ok}, lemmas.Bool.{lt-leb}, lemmas.Bool.Decides.{nat_tests}}
use Rattle.std.proofs.lemmas.List.{length-append}
use Rattle.std.specs.{Char.{is_ascii_digit}, List.{prefix_len}}
use Rattle.mdp_math.specs.Rational.{ℚ}
use Rattle.mdp_num.specs.{Digits.{front_digits, number}, Numeral.{limit}}
use Rattle.mdp_num.proofs.{Grammar.{front-is, behind-is}, Plain.{number-decimal}}
use Rattle.mdp_rows.specs.Draft.{Draft, all_closed, state_opened}
use Rattle.mdp_drn.specs.Lines.{is_blank, is_line_feed, without_blanks_before, is_comment, content}
use Rattle.mdp_drn.specs.Body.{Body, has_digits, is_state_line, is_rest_of_state, bracket_to, bracket_at, state_read, with_labels, model_line}
use Rattle.mdp_drn.specs.Writing.{joined, bracket_text, labels_text}
use Rattle.mdp_drn.proofs.TextWritten.Bytes.{Pass, Fail, pass-append, pass-weaken, take-stop, drop-stop, filled}
use Rattle.mdp_drn.proofs.TextWritten.Lines.{EndsWell, BeginsWell, ends-append, ends-byte, content-well, before-well, before-space}
use Rattle.mdp_drn.proofs.TextWritten.Numbers.{IsDecimal, is-decimal, decimal-digits, decimal-short, limit-wide}
use Rattle.mdp_drn.proofs.TextWritten.Brackets.{AreRewardTexts, commas, is_list_byte, joined-bytes, rewards-read, begins-digit}
use Rattle.mdp_drn.proofs.TextWritten.Labels.{AreLabels, quotes, quotes-more, names_at, labels_text-is, labels_in-quotes, quotes-short, quotes-no_feed}

-- what stands behind the number of a state, and the line
abbrev pub behind_number : List ℕ → List (List ℕ) → List ℕ
behind_number inside names = 32 ∷ 91 ∷ (inside ++ 93 ∷ quotes names)

abbrev pub state_text : ℕ → List ℕ → List (List ℕ) → List ℕ
state_text s inside names = 115 ∷ 116 ∷ 97 ∷ 116 ∷ 101 ∷ 32 ∷ (decimal s ++ behind_number inside names)

pub state_text-is : (s : ℕ) (values labels : List (List ℕ)) (places : List ℕ)
    → codes "state " ++ decimal s ++ bracket_text values ++ labels_text labels places ≡ state_text s (joined commas values) (names_at labels places)
state_text-is s values labels places =
    ap (λ (t : List ℕ). codes "state " ++ decimal s ++ bracket_text values ++ t) (labels_text-is labels places)
    ∙ ap (λ (t : List ℕ). 115 ∷ 116 ∷ 97 ∷ 116 ∷ 101 ∷ 32 ∷ t) (append_assoc (decimal s) (bracket_text values) (quotes (names_at labels places))
    ∙ ap (λ (t : List ℕ). decimal s ++ 32 ∷ 91 ∷ t) (append_assoc (joined commas values) (93 ∷ []) (quotes (names_at labels places))))

-- ---- the line's content

quotes-end : (c : ℕ) (names : List (List ℕ)) → is_blank c ≡ false → eqb c 13 ≡ false → EndsWell (c ∷ quotes names)
quotes-end c [] p q = ends-byte [] c p q
quotes-end c (name ∷ names) p q =
    subst (λ (t : List ℕ). EndsWell (c ∷ t)) (sym (quotes-more name names)) (ends-append (c ∷ 32 ∷ 34 ∷ name) (34 ∷ quotes names) (quotes-end 34 names refl refl))

state-ends : (s : ℕ) (inside : List ℕ) (names : List (List ℕ)) → EndsWell (state_text s inside names)
state-ends s inside names =
    ends-append (115 ∷ 116 ∷ 97 ∷ 116 ∷ 101 ∷ 32 ∷ decimal s) (behind_number inside names)
    (ends-append (32 ∷ 91 ∷ inside) (93 ∷ quotes names) (quotes-end 93 names refl refl))

pub state-content : (s : ℕ) (inside : List ℕ) (names : List (List ℕ)) → content (state_text s inside names) ≡ state_text s inside names
state-content s inside names = content-well (state_text s inside names) refl (state-ends s inside names)

pub state-no_comment : (s : ℕ) (inside : List ℕ) (names : List (List ℕ)) → is_comment (state_text s inside names) ≡ false
state-no_comment s inside names = refl

digit-no_feed : (c : ℕ) → is_ascii_digit c ≡ true → not (is_line_feed c) ≡ true
digit-no_feed c h = grind (arith, nat_tests)

pub list-no_feed : (c : ℕ) → is_list_byte c ≡ true → not (is_line_feed c) ≡ true
list-no_feed c h = grind (arith, nat_tests)

pub decimal-no_feed : (n : ℕ) → n ≤ limit → Fail is_line_feed (decimal n)
decimal-no_feed n h = pass-weaken is_ascii_digit (λ c. not (is_line_feed c)) digit-no_feed (decimal n) (IsDecimal.bytes (is-decimal n (limit-wide n h)))

pub state-no_feed : (s : ℕ) (inside : List ℕ) (names : List (List ℕ)) → s ≤ limit → Pass is_list_byte inside → AreLabels names → Fail is_line_feed (state_text s inside names)
state-no_feed s inside names h k l =
    pass-append (λ c. not (is_line_feed c)) (decimal s) (behind_number inside names) (decimal-no_feed s h)
    (pass-append (λ c. not (is_line_feed c)) inside (93 ∷ quotes names) (pass-weaken is_list_byte (λ c. not (is_line_feed c)) list-no_feed inside k) (quotes-no_feed names l))

pub state-short : (s : ℕ) (inside : List ℕ) (names : List (List ℕ)) → s ≤ limit → length inside ≤ 1248 → AreLabels names → length names ≤ 64 → length (state_text s inside names) ≤ 65536
state-short s inside names h k l few =
    omega (arith, decimal-short s h, quotes-short names l, length-append (decimal s) (behind_number inside names), length-append inside (93 ∷ quotes names))

-- ---- what is read of it

list-no_close : (c : ℕ) → is_list_byte c ≡ true → not (eqb c 93) ≡ true
list-no_close c h = grind (arith, nat_tests)

any-or : (a : Bool) → (a || true || false || (false || false)) ≡ true
any-or true = refl
any-or false = refl

rest-of-state : (inside : List ℕ) (names : List (List ℕ)) → is_rest_of_state (behind_number inside names) ≡ true
rest-of-state inside names = any-or (eqb (length (behind_number inside names)) 0)

bracket-is : (inside : List ℕ) (names : List (List ℕ)) → Pass is_list_byte inside → bracket_at (91 ∷ (inside ++ 93 ∷ quotes names)) ≡ Ok (inside, quotes names)
bracket-is inside names h =
    let none = pass-weaken is_list_byte (λ c. not (eqb c 93)) list-no_close inside h in
    ap₂ bracket_to (take-stop (λ c. not (eqb c 93)) inside 93 (quotes names) none refl) (drop-stop (λ c. not (eqb c 93)) inside 93 (quotes names) none refl)

pub state-read : (d : Draft) (s : ℕ) (values : List (List ℕ)) (names : List (List ℕ)) (xs : List ℚ) → s ≤ limit → s ≡ length d.closed → length d.closed < d.announced
    → 0 < length values → length values ≡ length d.names → AreRewardTexts values xs → AreLabels names
    → state_read d (decimal s) (behind_number (joined commas values) names) ≡ Ok (record { rewards = xs; labels = names })
unfolding state_read
state-read d s values names xs h is lt some as-many v l =
    let inside : List ℕ = joined commas values in
    let order : eqb (number (decimal s)) (length d.closed) ≡ true = eq-eqb (number (decimal s)) (length d.closed) (number-decimal s (limit-wide s h) ∙ is) in
    let left : leb d.announced (length d.closed) ≡ false = lt-leb d.announced (length d.closed) lt in
    rw (rest-of-state inside names, order, left, bracket-is inside names (joined-bytes values xs v), rewards-read (length d.names) values xs some as-many v, labels_in-quotes names l) refl

-- ---- the line

pub decimal-before : (n : ℕ) (rest : List ℕ) → n ≤ limit → without_blanks_before (32 ∷ (decimal n ++ rest)) ≡ decimal n ++ rest
decimal-before n rest h =
    let d = is-decimal n (limit-wide n h) in
    let begins : BeginsWell (decimal n ++ rest) = ap (λ (s : List ℕ). prefix_len is_blank (s ++ rest)) d.is ∙ begins-digit d.first (d.rest ++ rest) d.digit in
    before-space (decimal n ++ rest) ∙ before-well (decimal n ++ rest) begins

is-state : (s : ℕ) (inside : List ℕ) (names : List (List ℕ)) → s ≤ limit → is_state_line (state_text s inside names) ≡ true
is-state s inside names h =
    let d = is-decimal s (limit-wide s h) in
    let front : front_digits (decimal s ++ behind_number inside names) ≡ decimal s = front-is (decimal s) (behind_number inside names) (decimal-digits s (limit-wide s h)) refl in
    ap has_digits (decimal-before s (behind_number inside names) h) ∙ ap (λ (t : List ℕ). ltb 0 (length t)) (front ∙ d.is) ∙ filled (length d.rest)

pub state-line : (body : Body) (number s : ℕ) (closed opened labelled : Draft) (values names : List (List ℕ)) (xs : List ℚ)
    → all_closed body.draft ≡ Ok closed → state_opened closed xs ≡ Ok opened → with_labels names opened ≡ Ok labelled
    → s ≤ limit → s ≡ length closed.closed → length closed.closed < closed.announced → 0 < length values → length values ≡ length closed.names → AreRewardTexts values xs → AreLabels names
    → model_line body number (state_text s (joined commas values) names) ≡ Ok (record body { draft = labelled; state_line = number })
unfolding model_line
state-line body number s closed opened labelled values names xs e1 e2 e3 h is lt some as-many v l =
    let inside : List ℕ = joined commas values in
    let read = state-read closed s values names xs h is lt some as-many v l in
    let front = front-is (decimal s) (behind_number inside names) (decimal-digits s (limit-wide s h)) refl in
    let behind = behind-is (decimal s) (behind_number inside names) (decimal-digits s (limit-wide s h)) refl in
    rw (is-state s inside names h, decimal-before s (behind_number inside names) h, e1, front, behind, read, e2, e3) refl
