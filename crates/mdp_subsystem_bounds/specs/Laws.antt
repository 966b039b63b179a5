-- What holds of bounds of a subsystem, of their certificates and of the texts of these.
use Rattle.std.specs.Prelude.{◌≡◌, ◌↔◌, ℕ, ◌<◌, Bool, List, Ok}
use Rattle.mdp_math.specs.Rational.{ℚ}
use Rattle.mdp_spec.specs.{Mdp.{Mdp, states_of}, Row.{IsMdp}}
use Rattle.mdp_rows.specs.declared.dir.Dir.{Dir}
use Rattle.mdp_check.specs.declared.answer.Answer.TheVariants.{Yes}
use Rattle.mdp_cert.specs.Laws.{IsSameWords}
use Rattle.mdp_subsystem_bounds.specs.{Cert.{Certificate, Fits}, Rules.{AreSubsystemBounds, Reaches}, Check.{answer_to, IsAccepted, IsBound}}
use Rattle.mdp_subsystem_bounds.specs.{Spelling.{text_of}, Reading.{outcome}, Entries.{led_columns, IsLedInWidth, ranked_columns, IsRankedInWidth}}

-- ---- the rules

-- what meets the rules reaches the threshold on the kept states
abbrev pub RulesReach : Type 0
RulesReach =
    (dir : Dir) (m : Mdp) (goals : List Bool) (start : ℕ) (threshold : ℚ) (kept : List Bool) (lower : List ℚ) (choices ranks : List ℕ) → IsMdp m → start < states_of m
    → AreSubsystemBounds dir m goals start threshold kept lower choices ranks → Reaches dir m goals kept start threshold

-- ---- checking

-- the answer is yes exactly where the certificate is accepted
abbrev pub YesIsAccepted : Type 0
YesIsAccepted = (m : Mdp) (c : Certificate) → IsMdp m → Fits c → (answer_to m c ≡ Yes) ↔ IsAccepted m c

-- the claim of an accepted certificate is true
abbrev pub AcceptedIsBound : Type 0
AcceptedIsBound = (m : Mdp) (c : Certificate) → IsMdp m → IsAccepted m c → IsBound m c

-- ---- texts

-- what is read is the certificate of which the bytes are the text
abbrev pub IsReadFromText : Type 0
IsReadFromText = (bytes : List ℕ) (c : Certificate) → (outcome bytes ≡ Ok c) ↔ (Fits c × (bytes ≡ text_of c))

-- the text of a certificate is read as that certificate
abbrev pub IsReadBack : Type 0
IsReadBack = (c : Certificate) → Fits c → outcome (text_of c) ≡ Ok c

-- no two certificates have the same text
abbrev pub IsOneText : Type 0
IsOneText = (c d : Certificate) → Fits c → Fits d → text_of c ≡ text_of d → c ≡ d

-- states say the same exactly where their words are the same, for the greatest and for the least probability
pub record AreSameWords : Type 0 where
  pub led : IsSameWords led_columns IsLedInWidth
  pub ranked : IsSameWords ranked_columns IsRankedInWidth
