-- Numerals, and their values.
use Rattle.std.specs.Prelude.{ℕ, ◌+◌, ◌-◌, ◌*◌, ◌^◌, Bool, true, false, ◌||◌, List, [], ◌∷◌, ◌++◌}
use Rattle.std.specs.{Prelude.{length, take, Option, Some, None, Result, Ok, Err, nat_lt, ◌==◌, if◌then◌else◌, pos}, List.{suffix_len}}
use Rattle.mdp_math.specs.Rational.{ℚ, ratio}
use Rattle.mdp_num.specs.{Digits.{is_digits, front_digits, behind_digits, number}, declared.errors.NumeralError.{NumeralError}}
use Rattle.mdp_num.specs.declared.errors.NumeralError.TheVariants.{Shape, ZeroDen, Large}

-- 10 ^ 36: terms above this are too large
abbrev pub limit : ℕ
limit = 1000000000000000000000000000000000000

-- ---- the parts

-- `12.5e-3` is 12, 5 and 3, which is negative; `1/3` is 1 and 3
pub data Parts : Type 0 where
  Decimal : List ℕ → List ℕ → Bool → List ℕ → Parts
  Quotient : List ℕ → List ℕ → Parts

abbrev pub digits_or_none : Bool → List ℕ → Option (Bool × List ℕ)
digits_or_none negative bytes = if is_digits bytes then Some (negative, bytes) else None

-- a sign, which may be missing, and digits
abbrev pub signed_digits : List ℕ → Option (Bool × List ℕ)
signed_digits [] = None
signed_digits (c ∷ bytes) = if c == 45 then digits_or_none true bytes else (if c == 43 then digits_or_none false bytes else digits_or_none false (c ∷ bytes))

-- an exponent, which may be missing
abbrev pub exponent_of : List ℕ → Option (Bool × List ℕ)
exponent_of [] = Some (false, [])
exponent_of (c ∷ bytes) = if (c == 101) || (c == 69) then signed_digits bytes else None

abbrev pub decimal_parts : List ℕ → List ℕ → Option (Bool × List ℕ) → Option Parts
decimal_parts whole places None = None
decimal_parts whole places (Some x) = Some (Decimal whole places x.0 x.1)

-- what may stand behind the first digits
abbrev pub parts_behind : List ℕ → List ℕ → Option Parts
parts_behind whole [] = Some (Decimal whole [] false [])
parts_behind whole (c ∷ bytes) =
    if c == 47 then (if is_digits bytes then Some (Quotient whole bytes) else None)
    else (if c == 46
    then (if nat_lt 0 (length (front_digits bytes)) then decimal_parts whole (front_digits bytes) (exponent_of (behind_digits bytes)) else None)
    else decimal_parts whole [] (exponent_of (c ∷ bytes)))

unfoldable pub parts_of : List ℕ → Option Parts
parts_of bytes = if nat_lt 0 (length (front_digits bytes)) then parts_behind (front_digits bytes) (behind_digits bytes) else None

-- ---- the value

-- the zeros at the end of the digits, and the digits without them
abbrev pub zeros_behind : List ℕ → ℕ
zeros_behind digits = suffix_len (λ c. c == 48) digits

abbrev pub significant : List ℕ → List ℕ
significant digits = take (length digits - zeros_behind digits) digits

-- the terms of d times 10 ^ e, for e = up - down: 0 in any case where d is 0; else too large where d is above the limit, where e is below -36,
-- and where e is at least 0 and d times 10 ^ e is above the limit
abbrev pub scaled : ℕ → ℕ → ℕ → Result (ℕ × ℕ) NumeralError
scaled d up down =
    if d == 0 then Ok (0, 1)
    else (if nat_lt limit d || nat_lt (up + 36) down then Err Large
    else (if nat_lt up down then Ok (d, 10 ^ (down - up))
    else (if nat_lt limit (d * 10 ^ (up - down)) then Err Large else Ok (d * 10 ^ (up - down), 1))))

-- the digits without the zeros at their end, and one power of ten for each of these; the exponent; one power less for each place
abbrev pub decimal_terms : List ℕ → List ℕ → Bool → List ℕ → Result (ℕ × ℕ) NumeralError
decimal_terms whole places negative exponent =
    scaled (number (significant (whole ++ places)))
    ((if negative then 0 else number exponent) + zeros_behind (whole ++ places))
    ((if negative then number exponent else 0) + length places)

abbrev pub quotient_terms : ℕ → ℕ → Result (ℕ × ℕ) NumeralError
quotient_terms a b = if b == 0 then Err ZeroDen else (if nat_lt limit a || nat_lt limit b then Err Large else Ok (a, b))

abbrev pub terms_of : Option Parts → Result (ℕ × ℕ) NumeralError
terms_of None = Err Shape
terms_of (Some (Decimal whole places negative exponent)) = decimal_terms whole places negative exponent
terms_of (Some (Quotient over under)) = quotient_terms (number over) (number under)

abbrev pub value_of : Result (ℕ × ℕ) NumeralError → Result ℚ NumeralError
value_of (Ok p) = Ok (ratio (pos p.0) p.1)
value_of (Err e) = Err e

-- a numeral's value, or why it has none
unfoldable pub numeral_of : List ℕ → Result ℚ NumeralError
numeral_of bytes = value_of (terms_of (parts_of bytes))
