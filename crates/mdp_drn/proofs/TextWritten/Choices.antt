-- The lines of choices and entries, as they are read.
use Rattle.std.proofs.Common.{◌≡◌, ℕ, ◌-◌, ◌<◌, ◌≤◌, Bool, true, false, not, cond, eqb, ltb, leb, ◌&&◌, ◌||◌, List, [], ◌∷◌, ◌++◌, length, decimal}
use Rattle.std.proofs.{Common.{codes, append_assoc, take, drop, refl, sym, ap, ap₂, ◌∙◌, arith, Ok, Err}, lemmas.Bool.{lt-leb}, lemmas.Bool.Decides.{nat_tests}}
use Rattle.std.proofs.lemmas.List.{append-nil, length-append, take_at}
use Rattle.std.specs.{Char.{is_ascii_digit}, List.{list_any, prefix_len, after_last}, Option.{is_some}, Io.BufRead.{ends_with_byte}}
use Rattle.mdp_math.specs.Rational.{ℚ}
use Rattle.mdp_num.specs.{Digits.{front_digits, behind_digits, number}, Numeral.{limit}}
use Rattle.mdp_num.proofs.{Grammar.{front-is, behind-is}, Plain.{number-decimal}}
use Rattle.mdp_rows.specs.Draft.{Draft, choice_closed, choice_opened, after_entry, has_open_target}
use Rattle.mdp_drn.specs.declared.error.DrnKind.TheVariants as kind
use Rattle.mdp_drn.specs.{Lines.{is_blank, is_line_feed, without_blanks_before, is_comment, content}, Labels.{begins_blank}}
use Rattle.mdp_drn.specs.Body.{Body, has_digits, is_state_line, is_action_line, bracket_behind, action_read, value_text, entry_read, model_line}
use Rattle.mdp_drn.specs.Writing.{joined}
use Rattle.mdp_drn.proofs.TextWritten.Bytes.{Pass, Fail, pass-append, pass-weaken, any-middle, behind-last, ends-with, filled}
use Rattle.mdp_drn.proofs.TextWritten.Lines.{EndsWell, ends-append, ends-byte, content-tab, content-tabs, before-well, before-space}
use Rattle.mdp_drn.proofs.TextWritten.Numbers.{IsDecimal, is-decimal, decimal-digits, decimal-short, limit-wide, is_spelling_byte, IsSpelling, IsValueText, begins-other}
use Rattle.mdp_drn.proofs.TextWritten.Brackets.{AreRewardTexts, commas, is_list_byte, joined-bytes, rewards-read, begins-digit, spelling-begins, spelling-ends}
use Rattle.mdp_drn.proofs.{TextWritten.States.{list-no_feed, decimal-no_feed}, LinesRead.DraftCalls.{HasState, HasChoice, has-choice}}

-- ---- choices

-- behind the number of a choice, behind `action`, and the line without its tab
abbrev pub bracket_end : List ℕ → List ℕ
bracket_end inside = 32 ∷ 91 ∷ (inside ++ 93 ∷ [])

abbrev pub behind_action : ℕ → List ℕ → List ℕ
behind_action c inside = 32 ∷ (decimal c ++ bracket_end inside)

abbrev pub action_text : ℕ → List ℕ → List ℕ
action_text c inside = 97 ∷ 99 ∷ 116 ∷ 105 ∷ 111 ∷ 110 ∷ behind_action c inside

action-ends : (c : ℕ) (inside : List ℕ) → EndsWell (action_text c inside)
action-ends c inside =
    ends-append (97 ∷ 99 ∷ 116 ∷ 105 ∷ 111 ∷ 110 ∷ 32 ∷ decimal c) (bracket_end inside) (ends-append (32 ∷ 91 ∷ inside) (93 ∷ []) (ends-byte [] 93 refl refl))

pub action-content : (c : ℕ) (inside : List ℕ) → content (9 ∷ action_text c inside) ≡ action_text c inside
action-content c inside = content-tab (action_text c inside) refl (action-ends c inside)

pub action-no_comment : (c : ℕ) (inside : List ℕ) → is_comment (action_text c inside) ≡ false
action-no_comment c inside = refl

pub action-no_feed : (c : ℕ) (inside : List ℕ) → c ≤ limit → Pass is_list_byte inside → Fail is_line_feed (9 ∷ action_text c inside)
action-no_feed c inside h k =
    pass-append (λ c. not (is_line_feed c)) (decimal c) (bracket_end inside) (decimal-no_feed c h)
    (pass-append (λ c. not (is_line_feed c)) inside (93 ∷ []) (pass-weaken is_list_byte (λ c. not (is_line_feed c)) list-no_feed inside k) refl)

pub action-short : (c : ℕ) (inside : List ℕ) → c ≤ limit → length inside ≤ 1248 → length (9 ∷ action_text c inside) ≤ 65536
action-short c inside h k = omega (arith, decimal-short c h, length-append (decimal c) (bracket_end inside), length-append inside (93 ∷ []))

list-no_open : (c : ℕ) → is_list_byte c ≡ true → not (eqb c 91) ≡ true
list-no_open c h = grind (arith, nat_tests)

bracket-behind : (c : ℕ) (inside : List ℕ) → Pass is_list_byte inside → bracket_behind (behind_action c inside) ≡ Ok inside
bracket-behind c inside h =
    let front : List ℕ = 32 ∷ (decimal c ++ 32 ∷ []) in
    let by_open : behind_action c inside ≡ front ++ 91 ∷ (inside ++ 93 ∷ []) = ap (λ (t : List ℕ). 32 ∷ t) (sym (append_assoc (decimal c) (32 ∷ []) (91 ∷ (inside ++ 93 ∷ [])))) in
    let by_close : behind_action c inside ≡ (32 ∷ (decimal c ++ 32 ∷ 91 ∷ inside)) ++ 93 ∷ [] = ap (λ (t : List ℕ). 32 ∷ t) (sym (append_assoc (decimal c) (32 ∷ 91 ∷ inside) (93 ∷ []))) in
    let closed : ends_with_byte 93 (behind_action c inside) ≡ true = ap (ends_with_byte 93) by_close ∙ ends-with 93 (32 ∷ (decimal c ++ 32 ∷ 91 ∷ inside)) 93 in
    let open_there : list_any (λ c. eqb c 91) (behind_action c inside) ≡ true = ap (list_any (λ c. eqb c 91)) by_open ∙ any-middle (λ c. eqb c 91) front 91 (inside ++ 93 ∷ []) refl in
    let none : Fail (λ c. eqb c 91) (inside ++ 93 ∷ []) = pass-append (λ c. not (eqb c 91)) inside (93 ∷ []) (pass-weaken is_list_byte (λ c. not (eqb c 91)) list-no_open inside h) refl in
    let last : after_last (λ c. eqb c 91) (behind_action c inside) ≡ inside ++ 93 ∷ [] =
    ap (after_last (λ c. eqb c 91)) by_open ∙ behind-last (λ c. eqb c 91) front 91 (inside ++ 93 ∷ []) refl none in
    let n : length (inside ++ 93 ∷ []) - 1 ≡ length inside = omega (arith, length-append inside (93 ∷ [])) in
    ap₂ (λ (a b : Bool). cond a
    (cond b (Ok (take (length (after_last (λ c. eqb c 91) (behind_action c inside)) - 1) (after_last (λ c. eqb c 91) (behind_action c inside)))) (Err kind.Shape)) (Ok [])) closed open_there
    ∙ ap (λ (t : List ℕ). Ok (take (length t - 1) t)) last
    ∙ ap Ok (ap (λ (k : ℕ). take k (inside ++ 93 ∷ [])) n ∙ take_at inside (93 ∷ []) (length inside) refl)

some-state : (d : Draft) → HasState d → is_some d.state ≡ true
some-state d h = rw h.1 refl

action-read : (d : Draft) (c : ℕ) (values : List (List ℕ)) (xs : List ℚ) → HasState d → 0 < length values → length values ≡ length d.names → AreRewardTexts values xs
    → action_read false d (behind_action c (joined commas values)) ≡ Ok xs
unfolding action_read
action-read d c values xs s some as-many v = rw (some-state d s, bracket-behind c (joined commas values) (joined-bytes values xs v), rewards-read (length d.names) values xs some as-many v) refl

is-action : (c : ℕ) (inside : List ℕ) → is_action_line (action_text c inside) ≡ true
is-action c inside = or-true (eqb (length (action_text c inside)) 6)
  where
    or-true : (a : Bool) → (a || true) ≡ true
    or-true true = refl
    or-true false = refl

pub action-line : (body : Body) (number c : ℕ) (closed opened : Draft) (values : List (List ℕ)) (xs : List ℚ) → body.is_chain ≡ false
    → choice_closed body.draft ≡ Ok closed → choice_opened closed xs ≡ Ok opened → HasState closed → 0 < length values → length values ≡ length closed.names → AreRewardTexts values xs
    → model_line body number (action_text c (joined commas values)) ≡ Ok (record body { draft = opened; action_line = number })
unfolding model_line
action-line body number c closed opened values xs plain e1 e2 s some as-many v =
    rw (is-action c (joined commas values), e1, plain, action-read closed c values xs s some as-many v, e2) refl

-- ---- entries

abbrev pub behind_target : List ℕ → List ℕ
behind_target value = 32 ∷ 58 ∷ 32 ∷ value

abbrev pub transition_text : ℕ → List ℕ → List ℕ
transition_text target value = decimal target ++ behind_target value

pub transition_text-is : (target : ℕ) (value : List ℕ) → 9 ∷ 9 ∷ decimal target ++ codes " : " ++ value ≡ 9 ∷ 9 ∷ transition_text target value
transition_text-is target value = ap (λ (t : List ℕ). 9 ∷ 9 ∷ t) (append_assoc (decimal target) (32 ∷ 58 ∷ 32 ∷ []) value)

module _ (target : ℕ) (value : List ℕ) (x : ℚ) (small : target ≤ limit) (v : IsValueText value x) where
  d-is : IsDecimal (decimal target)
  d-is = is-decimal target (limit-wide target small)

  text-first : transition_text target value ≡ d-is.first ∷ (d-is.rest ++ behind_target value)
  text-first = ap (λ (t : List ℕ). t ++ behind_target value) d-is.is

  pub transition-content : content (9 ∷ 9 ∷ transition_text target value) ≡ transition_text target value
  transition-content =
      content-tabs (transition_text target value) (ap (prefix_len is_blank) text-first ∙ begins-digit d-is.first (d-is.rest ++ behind_target value) d-is.digit)
      (ends-append (decimal target) (behind_target value) (ends-append (32 ∷ 58 ∷ 32 ∷ []) value (spelling-ends value v.spelling)))

  pub transition-no_comment : is_comment (transition_text target value) ≡ false
  transition-no_comment = ap is_comment text-first ∙ begins-other 47 (47 ∷ []) d-is.first (d-is.rest ++ behind_target value) (no-slash d-is.first d-is.digit)
    where
      no-slash : (c : ℕ) → is_ascii_digit c ≡ true → eqb 47 c ≡ false
      no-slash c h = grind (arith, nat_tests)

  pub transition-no_feed : Fail is_line_feed (9 ∷ 9 ∷ transition_text target value)
  transition-no_feed =
      pass-append (λ c. not (is_line_feed c)) (decimal target) (behind_target value) (decimal-no_feed target small)
      (pass-weaken is_spelling_byte (λ c. not (is_line_feed c)) no-feed value (IsSpelling.bytes v.spelling))
    where
      no-feed : (c : ℕ) → is_spelling_byte c ≡ true → not (is_line_feed c) ≡ true
      no-feed c h = grind (arith, nat_tests)

  pub transition-short : length (9 ∷ 9 ∷ transition_text target value) ≤ 65536
  transition-short = omega (arith, IsSpelling.short v.spelling, decimal-short target small, length-append (decimal target) (behind_target value))

  not-state : is_state_line (transition_text target value) ≡ false
  not-state =
      ap is_state_line text-first
      ∙ ap (λ (b : Bool). b && begins_blank (drop 5 (d-is.first ∷ (d-is.rest ++ behind_target value))) && has_digits
      (without_blanks_before (drop 5 (d-is.first ∷ (d-is.rest ++ behind_target value)))))
      (begins-other 115 (116 ∷ 97 ∷ 116 ∷ 101 ∷ []) d-is.first (d-is.rest ++ behind_target value) (no-s d-is.first d-is.digit))
    where
      no-s : (c : ℕ) → is_ascii_digit c ≡ true → eqb 115 c ≡ false
      no-s c h = grind (arith, nat_tests)

  not-action : is_action_line (transition_text target value) ≡ false
  not-action =
      ap is_action_line text-first
      ∙ ap (λ (b : Bool). b && (eqb (length (d-is.first ∷ (d-is.rest ++ behind_target value))) 6 || begins_blank (drop 6 (d-is.first ∷ (d-is.rest ++ behind_target value)))))
      (begins-other 97 (99 ∷ 116 ∷ 105 ∷ 111 ∷ 110 ∷ []) d-is.first (d-is.rest ++ behind_target value) (no-a d-is.first d-is.digit))
    where
      no-a : (c : ℕ) → is_ascii_digit c ≡ true → eqb 97 c ≡ false
      no-a c h = grind (arith, nat_tests)

  value-behind : value_text (58 ∷ 32 ∷ value) ≡ Ok value
  value-behind =
      let e : without_blanks_before (32 ∷ value) ≡ value = before-space value ∙ before-well value (sym (ap (prefix_len is_blank) (append-nil value)) ∙ spelling-begins value [] v.spelling) in
      let some : ltb 0 (length (without_blanks_before (32 ∷ value))) ≡ true =
      ap (λ (t : List ℕ). ltb 0 (length t)) (e ∙ IsSpelling.is v.spelling) ∙ filled (length (IsSpelling.rest v.spelling)) in
      ap (λ (b : Bool). cond b (Ok (without_blanks_before (32 ∷ value))) (Err kind.Shape)) some ∙ ap Ok e

  entry-read : (d : Draft) → HasChoice d → target < d.announced → has_open_target d target ≡ false → entry_read d (transition_text target value) ≡ Ok (record { target = target; value = x })
  unfolding entry_read
  entry-read d c lt once =
      let digits = decimal-digits target (limit-wide target small) in
      let front : front_digits (transition_text target value) ≡ decimal target = front-is (decimal target) (behind_target value) digits refl in
      let behind : behind_digits (transition_text target value) ≡ behind_target value = behind-is (decimal target) (behind_target value) digits refl in
      let n : number (front_digits (transition_text target value)) ≡ target = ap number front ∙ number-decimal target (limit-wide target small) in
      let some : has_digits (transition_text target value) ≡ true = ap (λ (t : List ℕ). ltb 0 (length t)) (front ∙ d-is.is) ∙ filled (length d-is.rest) in
      let inside : leb d.announced target ≡ false = lt-leb d.announced target lt in
      rw (some, behind, value-behind, has-choice d c, n, inside, once, v.value) refl

  pub transition-line : (body : Body) (number : ℕ) (after : Draft) → HasChoice body.draft → target < body.draft.announced
      → has_open_target body.draft target ≡ false → after_entry body.draft target x ≡ Ok after
      → model_line body number (transition_text target value) ≡ Ok (record body { draft = after })
  unfolding model_line
  transition-line body number after c lt once e = rw (not-state, not-action, entry-read body.draft c lt once, e) refl
