-- Certificates of bounds of discounted rewards and their texts.
use Rattle.std.specs.Prelude.{◌≡◌, ◌↔◌, ℕ, List, Ok}
use Rattle.mdp_cert.specs.Laws.{IsSameWords}
use Rattle.mdp_discount_rules.specs.BoundsCert.{Certificate, Fits}
use Rattle.mdp_discount_text.specs.{Entries.{between_columns, IsEntryInWidth}, BoundsSpelling.{text_of}, Reading.{outcome}}

-- what is read is the certificate of which the bytes are the text
abbrev pub IsReadFromText : Type 0
IsReadFromText = (bytes : List ℕ) (c : Certificate) → (outcome bytes ≡ Ok c) ↔ (Fits c × (bytes ≡ text_of c))

-- the text of a certificate is read as that certificate
abbrev pub IsReadBack : Type 0
IsReadBack = (c : Certificate) → Fits c → outcome (text_of c) ≡ Ok c

-- no two certificates have the same text
abbrev pub IsOneText : Type 0
IsOneText = (c d : Certificate) → Fits c → Fits d → text_of c ≡ text_of d → c ≡ d

-- states say the same exactly where their words are the same
abbrev pub AreSameWords : Type 0
AreSameWords = IsSameWords between_columns IsEntryInWidth
