-- What holds of the texts of certificates of the discounted reward.
use Rattle.std.specs.Prelude.{◌≡◌, ◌↔◌, ℕ, List, Ok}
use Rattle.mdp_discount_rules.specs.Cert.{Certificate, Fits}
use Rattle.mdp_discount_text.specs.{Spelling.{text_of}, Text.{outcome}}

-- what is read is the certificate of which the bytes are the text
abbrev pub IsReadFromText : Type 0
IsReadFromText = (bytes : List ℕ) (c : Certificate) → (outcome bytes ≡ Ok c) ↔ (Fits c × (bytes ≡ text_of c))

-- so each has one text, which is read back
abbrev pub IsReadBack : Type 0
IsReadBack = (c : Certificate) → Fits c → outcome (text_of c) ≡ Ok c
