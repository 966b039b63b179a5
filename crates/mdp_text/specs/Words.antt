-- The words of a line, what stands behind a front of a text, and the numbers that words are.
use Rattle.std.specs.Prelude.{ℕ, suc, ◌^◌, ℤ, pos, negsuc, Bool, ◌&&◌, List, [], ◌∷◌, length, take}
use Rattle.std.specs.Prelude.{drop, codes, Option, Some, None, option_and_then, option_map, Result, Ok, nat_lt, ◌==◌, if◌then◌else◌}
use Rattle.std.specs.{List.{slice_split, position_or_len, before_first}, Str.{bytes_eq}}
use Rattle.mdp_math.specs.Rational.{ℚ}
use Rattle.mdp_num.specs.Canonical.{canonical_of}
use Rattle.mdp_rows.specs.Name.{is_name}
use Rattle.mdp_text.specs.declared.error.CertKind.TheVariants as kind
use Rattle.mdp_text.specs.{declared.error.Refusal.{Refusal}, Lines.{refused, or_refused}}

abbrev pub is_blank : ℕ → Bool
is_blank c = c == 32

abbrev pub words : List ℕ → List (List ℕ)
words text = slice_split is_blank text

-- the first of these words
abbrev pub first_of : List (List ℕ) → List ℕ
first_of [] = []
first_of (w ∷ ws) = w

abbrev pub begins_with : List ℕ → List (List ℕ) → Bool
begins_with due ws = bytes_eq (first_of ws) due

-- the words behind the first one, where it is this one and so many follow
unfoldable pub words_behind : List ℕ → ℕ → ℕ → List ℕ → Result (List (List ℕ)) Refusal
words_behind due count n text = if begins_with due (words text) && (length (words text) == suc count) then Ok (drop 1 (words text)) else refused kind.Shape n

-- what stands behind this front of a text
abbrev pub behind : List ℕ → List ℕ → Option (List ℕ)
behind front text = if bytes_eq (take (length front) text) front then Some (drop (length front) text) else None

abbrev pub is_quote : ℕ → Bool
is_quote c = c == 34

-- a name up to the first `"`, and what stands behind `" `
abbrev pub name_and_rest : List ℕ → Option (List ℕ × List ℕ)
name_and_rest text =
    if is_name (before_first is_quote text)
    then option_map (λ rest. (before_first is_quote text, rest)) (behind (codes "\" ") (drop (position_or_len is_quote text) text))
    else None

-- ---- numbers

-- a whole number: a fraction without `-` and `/`, below 2^32
abbrev pub whole_part : ℤ → Option ℕ
whole_part (pos n) = if nat_lt n (2 ^ 32) then Some n else None
whole_part (negsuc n) = None

unfoldable pub whole_of : List ℕ → Option ℕ
whole_of word = option_and_then (λ x. if x.den == 1 then whole_part x.num else None) (canonical_of word)

unfoldable pub whole_at : ℕ → List ℕ → Result ℕ Refusal
whole_at n word = or_refused kind.Number n (whole_of word)

unfoldable pub frac_at : ℕ → List ℕ → Result ℚ Refusal
frac_at n word = or_refused kind.Number n (canonical_of word)

-- a fraction, or `inf`
abbrev pub reward_parse : List ℕ → Option (Option ℚ)
reward_parse word = if bytes_eq word (codes "inf") then Some None else option_map Some (canonical_of word)
