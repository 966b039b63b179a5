-- Blanks at the ends of a line, and one CR behind them.
use Rattle.std.proofs.Common.{◌≡◌, ℕ, suc, ◌+◌, ◌-◌, ◌≤◌, Bool, true, false, cond, eqb, List, [], ◌∷◌, ◌++◌, length, take, drop, reverse}
use Rattle.std.proofs.{Common.{append_assoc, refl, sym, ap, subst, ◌∙◌, arith}, lemmas.Bool.Decides.{nat_tests}}
use Rattle.std.proofs.lemmas.List.{append-nil, length-append, take_at, take-append-le, reverse-append}
use Rattle.std.specs.{List.{list_all, prefix_len, suffix_len}, Io.BufRead.{strip_last, ends_with_byte}}
use Rattle.mdp_drn.specs.{Lines.{is_blank, content, without_blanks_before, without_blanks_behind}, Laws.{DropsBlanks}}
use Rattle.mdp_drn.proofs.TextWritten.Bytes.{Pass, and-parts, pass-reverse, length-reversed, prefix-none, ends-with}

-- ---- in front

before-blank : (b : ℕ) (t : List ℕ) → is_blank b ≡ true → without_blanks_before (b ∷ t) ≡ without_blanks_before t
before-blank b t h =
    let more : 1 + prefix_len is_blank t ≡ suc (prefix_len is_blank t) = omega arith in
    ap (λ (c : Bool). drop (cond c (1 + prefix_len is_blank t) 0) (b ∷ t)) h ∙ ap (λ (n : ℕ). drop n (b ∷ t)) more

before-blanks : (front t : List ℕ) → Pass is_blank front → without_blanks_before (front ++ t) ≡ without_blanks_before t
before-blanks [] t h = refl
before-blanks (b ∷ front) t h = let a = and-parts (is_blank b) (list_all is_blank front) h in before-blank b (front ++ t) a.0 ∙ before-blanks front t a.1

-- ---- behind

prefix-through : (p : ℕ → Bool) (xs ys : List ℕ) → Pass p xs → prefix_len p (xs ++ ys) ≡ length xs + prefix_len p ys
prefix-through p [] ys h = omega arith
prefix-through p (x ∷ xs) ys h =
    let a = and-parts (p x) (list_all p xs) h in
    let rest : prefix_len p (xs ++ ys) ≡ length xs + prefix_len p ys = prefix-through p xs ys a.1 in
    ap (λ (c : Bool). cond c (1 + prefix_len p (xs ++ ys)) 0) a.0 ∙ omega arith

suffix-through : (t behind : List ℕ) → Pass is_blank behind → suffix_len is_blank (t ++ behind) ≡ length behind + suffix_len is_blank t
suffix-through t behind h =
    let n : length (reverse behind) ≡ length behind = length-reversed behind in
    ap (prefix_len is_blank) (reverse-append t behind) ∙ prefix-through is_blank (reverse behind) (reverse t) (pass-reverse is_blank behind h) ∙ ap (λ (k : ℕ). k + suffix_len is_blank t) n

behind-blanks : (t behind : List ℕ) → Pass is_blank behind → without_blanks_behind (t ++ behind) ≡ without_blanks_behind t
behind-blanks t behind h =
    let s : suffix_len is_blank (t ++ behind) ≡ length behind + suffix_len is_blank t = suffix-through t behind h in
    let n : length (t ++ behind) - suffix_len is_blank (t ++ behind) ≡ length t - suffix_len is_blank t = omega (arith, s, length-append t behind) in
    let low : length t - suffix_len is_blank t ≤ length t = omega arith in
    ap (λ (k : ℕ). take k (t ++ behind)) n ∙ take-append-le (length t - suffix_len is_blank t) t behind low

trimmed-behind : (t behind : List ℕ) → Pass is_blank behind → without_blanks_behind (without_blanks_before (t ++ behind)) ≡ without_blanks_behind (without_blanks_before t)
trimmed-behind [] behind h = ap without_blanks_behind (ap without_blanks_before (sym (append-nil behind)) ∙ before-blanks behind [] h)
trimmed-behind (x ∷ xs) behind h = by (is_blank x) refl (trimmed-behind xs behind h)
  where
    whole : (t : List ℕ) → prefix_len is_blank t ≡ 0 → without_blanks_before t ≡ t
    whole t e = ap (λ (n : ℕ). drop n t) e

    by : (b : Bool) → is_blank x ≡ b → without_blanks_behind (without_blanks_before (xs ++ behind)) ≡ without_blanks_behind (without_blanks_before xs)
        → without_blanks_behind (without_blanks_before (x ∷ (xs ++ behind))) ≡ without_blanks_behind (without_blanks_before (x ∷ xs))
    by true e rest = ap without_blanks_behind (before-blank x (xs ++ behind) e) ∙ rest ∙ sym (ap without_blanks_behind (before-blank x xs e))
    by false e rest =
        ap without_blanks_behind (whole (x ∷ (xs ++ behind)) (prefix-none is_blank x (xs ++ behind) e))
        ∙ behind-blanks (x ∷ xs) behind h
        ∙ sym (ap without_blanks_behind (whole (x ∷ xs) (prefix-none is_blank x xs e)))

-- ---- the last byte

record Ended (t : List ℕ) : Type 0 where
  front : List ℕ
  last : ℕ
  is : t ≡ front ++ last ∷ []

ended : (x : ℕ) (xs : List ℕ) → Ended (x ∷ xs)
ended x [] = record { front = []; last = x; is = refl }
ended x (y ∷ ys) = let e = ended y ys in record { front = x ∷ e.front; last = e.last; is = ap (λ (t : List ℕ). x ∷ t) e.is }

abbrev NoReturn : List ℕ → Type 0
NoReturn t = ends_with_byte 13 t ≡ false

blank-other : (b : ℕ) → is_blank b ≡ true → eqb b 13 ≡ false
blank-other b h = grind (arith, nat_tests)

no-return-behind : (t behind : List ℕ) → NoReturn t → Pass is_blank behind → NoReturn (t ++ behind)
no-return-behind t [] e h = subst NoReturn (sym (append-nil t)) e
no-return-behind t (b ∷ behind) e h =
    let a = and-parts (is_blank b) (list_all is_blank behind) h in
    let last : NoReturn (t ++ b ∷ []) = ends-with 13 t b ∙ blank-other b a.0 in
    subst NoReturn (append_assoc t (b ∷ []) behind) (no-return-behind (t ++ b ∷ []) behind last a.1)

no-return-front : (front t : List ℕ) → Pass is_blank front → NoReturn t → NoReturn (front ++ t)
no-return-front front [] h e = subst NoReturn (sym (append-nil front)) (no-return-behind [] front refl h)
no-return-front front (x ∷ xs) h e =
    let w = ended x xs in
    let other : eqb w.last 13 ≡ false = sym (ends-with 13 w.front w.last) ∙ ap (ends_with_byte 13) (sym w.is) ∙ e in
    let is : front ++ (x ∷ xs) ≡ (front ++ w.front) ++ w.last ∷ [] = ap (λ (t : List ℕ). front ++ t) w.is ∙ sym (append_assoc front w.front (w.last ∷ [])) in
    subst NoReturn (sym is) (ends-with 13 (front ++ w.front) w.last ∙ other)

strip-none : (t : List ℕ) → NoReturn t → strip_last 13 t ≡ t
strip-none t e = ap (λ (b : Bool). cond b (take (length t - 1) t) t) e

strip-one : (t : List ℕ) → strip_last 13 (t ++ 13 ∷ []) ≡ t
strip-one t =
    let n : length (t ++ 13 ∷ []) - 1 ≡ length t = omega (arith, length-append t (13 ∷ [])) in
    ap (λ (b : Bool). cond b (take (length (t ++ 13 ∷ []) - 1) (t ++ 13 ∷ [])) (t ++ 13 ∷ [])) (ends-with 13 t 13)
    ∙ ap (λ (k : ℕ). take k (t ++ 13 ∷ [])) n ∙ take_at t (13 ∷ []) (length t) refl

pub drops-blanks : DropsBlanks
drops-blanks front text behind h k e =
    let whole : List ℕ = front ++ text ++ behind in
    let trim : without_blanks_behind (without_blanks_before (front ++ text ++ behind)) ≡ without_blanks_behind (without_blanks_before text) =
    ap (λ (t : List ℕ). without_blanks_behind (without_blanks_before t)) (append_assoc front text behind)
    ∙ ap without_blanks_behind (before-blanks front (text ++ behind) h)
    ∙ trimmed-behind text behind k in
    let same : content text ≡ without_blanks_behind (without_blanks_before text) = ap (λ (t : List ℕ). without_blanks_behind (without_blanks_before t)) (strip-none text e) in
    let none : NoReturn (front ++ text ++ behind) = no-return-behind (front ++ text) behind (no-return-front front text h e) k in
    record {
      alone = ap (λ (t : List ℕ). without_blanks_behind (without_blanks_before t)) (strip-none (front ++ text ++ behind) none) ∙ trim ∙ sym same;
      with_return = ap (λ (t : List ℕ). without_blanks_behind (without_blanks_before t)) (strip-one (front ++ text ++ behind)) ∙ trim ∙ sym same;
    }
