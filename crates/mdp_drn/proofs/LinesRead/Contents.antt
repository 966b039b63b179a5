-- What of a line is read.
use Rattle.std.proofs.Common.{◌≡◌, ℕ, zero, suc, ◌+◌, ◌-◌, Bool, true, false, cond, List, [], ◌∷◌, take, drop, length, refl, subst, arith}
use Rattle.std.proofs.lemmas.List.Elements.{All-take, All-drop}
use Rattle.std.specs.{List.{prefix_len, suffix_len}, Io.BufRead.{strip_last, ends_with_byte}}
use Rattle.mdp_drn.specs.{Lines.{is_blank, is_line_feed, content, without_blanks_before}, Labels.{begins_blank}, BodyView.{IsOneLine}}

abbrev NoFeed : ℕ → Type 0
NoFeed b = is_line_feed b ≡ false

stripped_plain : (line : List ℕ) → IsOneLine line → IsOneLine (strip_last 13 line)
stripped_plain line one = by (ends_with_byte 13 line)
  where
    by : (b : Bool) → IsOneLine (cond b (take (length line - 1) line) line)
    by true = All-take NoFeed (length line - 1) line one
    by false = one

pub content_plain : (line : List ℕ) → IsOneLine line → IsOneLine (content line)
content_plain line one =
    let bare = strip_last 13 line in
    let front = without_blanks_before bare in
    All-take NoFeed (length front - suffix_len is_blank front) front (All-drop NoFeed (prefix_len is_blank bare) bare (stripped_plain line one))

before_front : (xs : List ℕ) → begins_blank (without_blanks_before xs) ≡ false
before_front [] = refl
before_front (x ∷ xs) = by (is_blank x) refl (before_front xs)
  where
    by : (b : Bool) → is_blank x ≡ b → begins_blank (without_blanks_before xs) ≡ false → begins_blank (drop (cond b (1 + prefix_len is_blank xs) 0) (x ∷ xs)) ≡ false
    by true e rest = let more : suc (prefix_len is_blank xs) ≡ 1 + prefix_len is_blank xs = omega arith in subst (λ (k : ℕ). begins_blank (drop k (x ∷ xs)) ≡ false) more rest
    by false e rest = e

take_front : (n : ℕ) (xs : List ℕ) → begins_blank xs ≡ false → begins_blank (take n xs) ≡ false
take_front zero xs h = refl
take_front (suc n) [] h = refl
take_front (suc n) (x ∷ xs) h = h

pub content_front : (line : List ℕ) → begins_blank (content line) ≡ false
content_front line =
    let front = without_blanks_before (strip_last 13 line) in
    take_front (length front - suffix_len is_blank front) front (before_front (strip_last 13 line))
