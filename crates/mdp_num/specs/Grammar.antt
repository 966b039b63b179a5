-- The grammar of numerals: digits [. digits] [(e or E) [+ or -] digits], or digits / digits.
use Rattle.std.specs.Prelude.{◌≡◌, ◌⊎◌, ℕ, Bool, true, false, List, [], ◌∷◌, ◌++◌, Some}
use Rattle.mdp_num.specs.{Numeral.{Parts, Decimal, Quotient, parts_of}, Digits.{is_digits}}

abbrev pub IsDigits : List ℕ → Type 0
IsDigits text = is_digits text ≡ true

-- a point and digits, which may be missing
abbrev pub IsPoint : List ℕ → List ℕ → Type 0
IsPoint places text = ((places ≡ []) × (text ≡ [])) ⊎ (IsDigits places × (text ≡ 46 ∷ places))

-- `-`, or `+` or nothing
abbrev pub IsSign : Bool → List ℕ → Type 0
IsSign true sign = sign ≡ 45 ∷ []
IsSign false sign = (sign ≡ []) ⊎ (sign ≡ 43 ∷ [])

-- an `e` or `E`, a sign and digits, which may be missing
abbrev pub IsExponent : Bool → List ℕ → List ℕ → Type 0
IsExponent negative digits text =
    ((negative ≡ false) × (digits ≡ []) × (text ≡ [])) ⊎
    ((mark : ℕ) × (sign : List ℕ) × ((mark ≡ 101) ⊎ (mark ≡ 69)) × IsSign negative sign × IsDigits digits × (text ≡ mark ∷ (sign ++ digits)))

-- the text spells the parts
abbrev pub Spells : Parts → List ℕ → Type 0
Spells (Decimal whole places negative exponent) text =
    (point : List ℕ) × (tail : List ℕ) × IsDigits whole × IsPoint places point × IsExponent negative exponent tail × (text ≡ whole ++ (point ++ tail))
Spells (Quotient over under) text = IsDigits over × IsDigits under × (text ≡ over ++ 47 ∷ under)

-- parts are read only from a text that spells them
abbrev pub IsSound : Type 0
IsSound = (text : List ℕ) (parts : Parts) → parts_of text ≡ Some parts → Spells parts text

-- and from each such text
abbrev pub IsComplete : Type 0
IsComplete = (text : List ℕ) (parts : Parts) → Spells parts text → parts_of text ≡ Some parts
