-- Certificates and their texts.
use Rattle.std.specs.Prelude.{◌≡◌, ◌↔◌, ◌⊎◌, ℕ, zero, suc, ◌-◌, ◌<◌, true, List, [], ◌++◌, length, drop, Result, Ok, Err, nat_lt, if◌then◌else◌}
use Rattle.std.specs.List.{position_or_len, before_first, after_first}
use Rattle.mdp_text.specs.{declared.error.CertKind.TheVariants.{End}, declared.error.Refusal.{Refusal}, Lines.{is_line_feed}, Spelling.{line}}
use Rattle.mdp_cert.specs.{declared.version.Version.{Version}, Cert.{Certificate, IsValueNarrow, Fits}, Runs.{Columns}}
use Rattle.mdp_cert.specs.{Claims.{fraction_value, reward_value}, Entries.{bound_columns, policy_columns, IsPolicyInWidth, mean_columns, IsMeanInWidth}}
use Rattle.mdp_cert.specs.{Spelling.{text_in, text_of, old_text_of}, Reading.{outcome}}
use Rattle.mdp_num.specs.Value.{IsNarrow}

-- what is read is the certificate of which the bytes are one of the two texts
abbrev pub IsReadFromText : Type 0
IsReadFromText = (bytes : List ℕ) (c : Certificate) → (outcome bytes ≡ Ok c) ↔ (Fits c × ((bytes ≡ text_of c) ⊎ (bytes ≡ old_text_of c)))

-- both texts of a certificate are read as that certificate
abbrev pub IsReadBack : Type 0
IsReadBack = (c : Certificate) → Fits c → (outcome (text_of c) ≡ Ok c) × (outcome (old_text_of c) ≡ Ok c)

-- the bytes behind those from before are read as this certificate
abbrev pub ReadsBack : List ℕ → List ℕ → Certificate → Type 0
ReadsBack old new c = outcome (drop (length old) new) ≡ Ok c

-- no two texts are the same: not those of two certificates, and not the two of one
abbrev pub IsOneText : Type 0
IsOneText = (v w : Version) (c d : Certificate) → Fits c → Fits d → text_in v c ≡ text_in w d → (v ≡ w) × (c ≡ d)

-- states say the same exactly where their words are the same
abbrev pub IsSameWords : {A : Type 0} → Columns A → (A → Type 0) → Type 0
IsSameWords {A} k IsInWidth = (x y : A) → IsInWidth x → IsInWidth y → (k.same x y ≡ true) ↔ (k.words x ≡ k.words y)

-- and so for each claim
pub record AreSameWords : Type 0 where
  pub bounds : IsSameWords bound_columns IsNarrow
  pub policies : IsSameWords (policy_columns fraction_value) (IsPolicyInWidth IsNarrow)
  pub rewards : IsSameWords (policy_columns reward_value) (IsPolicyInWidth IsValueNarrow)
  pub means : IsSameWords mean_columns IsMeanInWidth

-- bytes are a text of a certificate, or they are refused
abbrev pub IsReadOrRefused : Type 0
IsReadOrRefused = (bytes : List ℕ) → ((c : Certificate) × Fits c × ((bytes ≡ text_of c) ⊎ (bytes ≡ old_text_of c))) ⊎ ((r : Refusal) × (outcome bytes ≡ Err r))

-- and not both
abbrev pub IsNotBoth : Type 0
IsNotBoth = (bytes : List ℕ) (c : Certificate) (r : Refusal) → Fits c → (bytes ≡ text_of c) ⊎ (bytes ≡ old_text_of c) → outcome bytes ≡ Err r → ⊥

-- the first n lines, each with its line feed; all bytes where there are fewer
unfoldable pub first_lines : ℕ → List ℕ → List ℕ
first_lines zero bytes = []
first_lines (suc n) bytes = if nat_lt (position_or_len is_line_feed bytes) (length bytes) then line (before_first is_line_feed bytes) ++ first_lines n (after_first is_line_feed bytes) else bytes

-- nothing is refused but that line n is missing
abbrev pub LacksAtMost : ℕ → Result Certificate Refusal → Type 0
LacksAtMost n (Ok c) = Unit {0}
LacksAtMost n (Err r) = r ≡ record { kind = End; line = n }

-- a refusal names the first line that breaks a rule: the lines before it break none, and the bytes behind it change nothing
abbrev pub IsFirstBroken : Type 0
IsFirstBroken = (bytes : List ℕ) (r : Refusal) → outcome bytes ≡ Err r → (0 < r.line) × LacksAtMost r.line (outcome (first_lines (r.line - 1) bytes)) ×
    (outcome (first_lines r.line bytes) ≡ Err r)
