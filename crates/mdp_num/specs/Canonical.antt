-- The canonical spelling of fractions, as it is read.
use Rattle.std.specs.Prelude.{◌≡◌, ℕ, ◌^◌, Bool, true, false, not, ◌&&◌, ◌||◌, List, [], ◌∷◌, Option, Some, None, nat_lt, ◌==◌, if◌then◌else◌}
use Rattle.mdp_math.specs.{Gcd.{gcd}, Rational.{ℚ, ratio}, Written.{signed}}
use Rattle.mdp_num.specs.{Value.{spelling, IsNarrow}, Digits.{front_digits, behind_digits, number, is_plain}}

-- a term: digits without leading zeros, of a number in width
abbrev pub term_of : List ℕ → Option ℕ
term_of digits = if is_plain digits && nat_lt (number digits) (2 ^ 127) then Some (number digits) else None

-- the denominator behind the numerator's digits: 1 where nothing follows, else `/` and a term above 1
abbrev pub above_one : Option ℕ → Option ℕ
above_one None = None
above_one (Some d) = if nat_lt 1 d then Some d else None

abbrev pub den_behind : List ℕ → Option ℕ
den_behind [] = Some 1
den_behind (c ∷ digits) = if c == 47 then above_one (term_of digits) else None

-- n/d, or -n/d: only in lowest terms, and no -0
abbrev pub lowest_of : Bool → Option ℕ → Option ℕ → Option ℚ
lowest_of negative None d = None
lowest_of negative (Some n) None = None
lowest_of negative (Some n) (Some d) = if (negative && (n == 0)) || (not (gcd n d == 1)) then None else Some (ratio (signed negative n) d)

abbrev pub unsigned_of : Bool → List ℕ → Option ℚ
unsigned_of negative bytes = lowest_of negative (term_of (front_digits bytes)) (den_behind (behind_digits bytes))

-- the fraction that the bytes are the spelling of
unfoldable pub canonical_of : List ℕ → Option ℚ
canonical_of [] = None
canonical_of (c ∷ bytes) = if c == 45 then unsigned_of true bytes else unsigned_of false (c ∷ bytes)

-- what is read is the spelling of a fraction in width
abbrev pub IsSpelled : Type 0
IsSpelled = (bytes : List ℕ) (x : ℚ) → canonical_of bytes ≡ Some x → (bytes ≡ spelling x) × IsNarrow x

-- each such spelling is read back
abbrev pub IsReadBack : Type 0
IsReadBack = (x : ℚ) → IsNarrow x → canonical_of (spelling x) ≡ Some x

-- and no two numbers have the same one
abbrev pub IsOneSpelling : Type 0
IsOneSpelling = (x y : ℚ) → IsNarrow x → IsNarrow y → spelling x ≡ spelling y → x ≡ y
