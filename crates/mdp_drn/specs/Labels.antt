-- The labels of a line.
use Rattle.std.specs.Prelude.{ℕ, zero, suc, Bool, false, not, ◌||◌, ◌&&◌, List, [], ◌∷◌, length, take, drop, Result, Ok, Err, nat_lt, nat_le, ◌==◌, if◌then◌else◌}
use Rattle.std.specs.List.{prefix_len, list_any}
use Rattle.mdp_drn.specs.{declared.error.DrnKind.{DrnKind}, declared.error.DrnKind.TheVariants.{Label}, Lines.{is_blank, without_blanks_before}}
use Rattle.mdp_drn.specs.Outcome.{◌>>=◌}

abbrev pub is_quote : ℕ → Bool
is_quote c = c == 34

-- the bytes up to the first that passes the test, and the bytes from it on
abbrev pub before_first : (ℕ → Bool) → List ℕ → List ℕ
before_first test bytes = take (prefix_len (λ c. not (test c)) bytes) bytes

abbrev pub from_first : (ℕ → Bool) → List ℕ → List ℕ
from_first test bytes = drop (prefix_len (λ c. not (test c)) bytes) bytes

abbrev pub begins_blank : List ℕ → Bool
begins_blank [] = false
begins_blank (c ∷ bytes) = is_blank c

abbrev pub is_sized : List ℕ → Bool
is_sized name = nat_lt 0 (length name) && nat_le (length name) 255

-- a label behind its opening quote, and the bytes behind the closing one
abbrev pub quoted_at : List ℕ → List ℕ → Result (List ℕ × List ℕ) DrnKind
quoted_at name [] = Err Label
quoted_at name (quote ∷ rest) = if is_sized name && ((length rest == 0) || begins_blank rest) then Ok (name, rest) else Err Label

abbrev pub quoted : List ℕ → Result (List ℕ × List ℕ) DrnKind
quoted bytes = quoted_at (before_first is_quote bytes) (from_first is_quote bytes)

-- a label without quotes, and the bytes behind it
abbrev pub bare : List ℕ → Result (List ℕ × List ℕ) DrnKind
bare bytes =
    if is_sized (before_first is_blank bytes) && not (list_any is_quote (before_first is_blank bytes)) then Ok (before_first is_blank bytes, from_first is_blank bytes)
    else Err Label

abbrev pub label_at : ℕ → List ℕ → Result (List ℕ × List ℕ) DrnKind
label_at c bytes = if is_quote c then quoted bytes else bare (c ∷ bytes)

-- the labels that bytes without blanks before them spell, in the order of the line; the count is at least that of the bytes and 1
abbrev pub labels_within : ℕ → List ℕ → Result (List (List ℕ)) DrnKind
labels_within zero bytes = Ok []
labels_within (suc count) [] = Ok []
labels_within (suc count) (c ∷ bytes) = do
  label ← label_at c bytes
  others ← labels_within count (without_blanks_before label.1)
  Ok (label.0 ∷ others)

unfoldable pub labels_in : List ℕ → Result (List (List ℕ)) DrnKind
labels_in bytes = labels_within (suc (length bytes)) (without_blanks_before bytes)
