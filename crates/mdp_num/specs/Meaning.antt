-- What the parts of a numeral mean.
use Rattle.std.specs.Prelude.{◌≡◌, ◌≢◌, ◌↔◌, ℕ, ◌+◌, ◌*◌, ◌%◌, ◌^◌, ◌<◌, ◌≤◌, Bool, true, false, List, ◌++◌, length, pos, unsigned_abs, Ok, Err}
use Rattle.mdp_math.specs.Rational.{ℚ, ratio, ◌≤ℚ◌}
use Rattle.mdp_math.proofs.Order.{0ℚ}
use Rattle.mdp_num.specs.{declared.errors.NumeralError.TheVariants.{Shape}, Digits.{number}, Grammar.{IsDigits, Spells}}
use Rattle.mdp_num.specs.Numeral.{Parts, Decimal, Quotient, limit, numeral_of, significant, zeros_behind}

-- all digits as one number, times 10 to the exponent, over 10 to the count of places
abbrev pub decimal_value : List ℕ → List ℕ → Bool → List ℕ → ℚ
decimal_value whole places false exponent = ratio (pos (number (whole ++ places) * 10 ^ number exponent)) (10 ^ length places)
decimal_value whole places true exponent = ratio (pos (number (whole ++ places))) (10 ^ (length places + number exponent))

abbrev pub meaning : Parts → ℚ
meaning (Decimal whole places negative exponent) = decimal_value whole places negative exponent
meaning (Quotient over under) = ratio (pos (number over)) (number under)

-- a numeral that is read has the value that its parts mean
abbrev pub IsMeant : Type 0
IsMeant = (text : List ℕ) (parts : Parts) (x : ℚ) → Spells parts text → numeral_of text ≡ Ok x → x ≡ meaning parts

-- a text is refused for its shape exactly where it spells no parts
abbrev pub IsRefusedByShape : Type 0
IsRefusedByShape = (text : List ℕ) → (numeral_of text ≡ Err Shape) ↔ ((parts : Parts) → Spells parts text → ⊥)

-- the number of digits is that of the digits without the zeros at their end, times a power of ten
abbrev pub IsSplit : Type 0
IsSplit = (digits : List ℕ) → number digits ≡ number (significant digits) * 10 ^ zeros_behind digits

-- and without these zeros it isn't divisible by 10, unless it is 0
abbrev pub HasNoZero : Type 0
HasNoZero = (digits : List ℕ) → IsDigits digits → number digits ≢ 0 → number (significant digits) % 10 ≢ 0

-- both terms of a numeral are within the limit, and the denominator is at least 1
pub record AreWithinLimit (terms : ℕ × ℕ) : Type 0 where
  pub num : terms.0 ≤ limit
  pub den : terms.1 ≤ limit
  pub some : 0 < terms.1

pub record IsWithinLimit (x : ℚ) : Type 0 where
  pub nonnegative : 0ℚ ≤ℚ x
  pub num : unsigned_abs x.num ≤ limit
  pub den : x.den ≤ limit
