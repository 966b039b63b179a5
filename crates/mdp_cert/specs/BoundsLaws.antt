-- Certificates of bounds and their texts.
use Rattle.std.specs.Prelude.{◌≡◌, ◌↔◌, ℕ, List, Ok}
use Rattle.mdp_num.specs.Value.{IsNarrow}
use Rattle.mdp_cert.specs.{Cert.{IsValueNarrow}, Claims.{fraction_value, reward_value}, Laws.{IsSameWords}, BoundsCert.{Certificate, Fits}}
use Rattle.mdp_cert.specs.{Entries.{ranked_columns, IsRankedInWidth, gains_columns, IsGainsInWidth}, BoundsSpelling.{text_of}, BoundsReading.{outcome}}

-- what is read is the certificate of which the bytes are the text
abbrev pub IsReadFromText : Type 0
IsReadFromText = (bytes : List ℕ) (c : Certificate) → (outcome bytes ≡ Ok c) ↔ (Fits c × (bytes ≡ text_of c))

-- the text of a certificate is read as that certificate
abbrev pub IsReadBack : Type 0
IsReadBack = (c : Certificate) → Fits c → outcome (text_of c) ≡ Ok c

-- no two certificates have the same text
abbrev pub IsOneText : Type 0
IsOneText = (c d : Certificate) → Fits c → Fits d → text_of c ≡ text_of d → c ≡ d

-- states say the same exactly where their words are the same, for each claim
pub record AreSameWords : Type 0 where
  pub probabilities : IsSameWords (ranked_columns fraction_value) (IsRankedInWidth IsNarrow)
  pub rewards : IsSameWords (ranked_columns reward_value) (IsRankedInWidth IsValueNarrow)
  pub gains : IsSameWords gains_columns IsGainsInWidth
