-- Digits, and the whole numbers that they write.
use Rattle.std.specs.{Prelude.{ℕ, ◌+◌, ◌-◌, ◌*◌, Bool, false, not, ◌||◌, ◌&&◌, List, [], ◌∷◌, length, take, drop, nat_lt, ◌==◌}, Char.{is_ascii_digit}}
use Rattle.std.specs.List.{prefix_len}

-- one or more digits and nothing else
abbrev pub is_digits : List ℕ → Bool
is_digits bytes = nat_lt 0 (length bytes) && (prefix_len is_ascii_digit bytes == length bytes)

-- the digits at the front, and the bytes behind them
abbrev pub front_digits : List ℕ → List ℕ
front_digits bytes = take (prefix_len is_ascii_digit bytes) bytes

abbrev pub behind_digits : List ℕ → List ℕ
behind_digits bytes = drop (prefix_len is_ascii_digit bytes) bytes

-- the number that digits write behind those of n
abbrev pub number_after : ℕ → List ℕ → ℕ
number_after n [] = n
number_after n (c ∷ cs) = number_after (n * 10 + (c - 48)) cs

abbrev pub number : List ℕ → ℕ
number digits = number_after 0 digits

-- digits, and 0 in front only where it is alone
abbrev pub is_plain : List ℕ → Bool
is_plain [] = false
is_plain (c ∷ cs) = is_digits (c ∷ cs) && (not (c == 48) || (length cs == 0))
