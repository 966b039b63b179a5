-- What is shown of the text that `bounds` of a witness prints.
use Rattle.std.specs.Prelude.{◌≡◌, ℕ, ◌≤◌, Bool, List, length, Some, Ok}
use Rattle.mdp_spec.specs.Mdp.{Mdp}
use Rattle.mdp_check.specs.Check.{goal_marks}
use Rattle.mdp_subsystem_bounds.specs.{Cert.{SubsystemClaim, Certificate, plain_claim}, Check.{IsAccepted, IsBound}, Reading.{outcome}, Spelling.{text_of}}
use Rattle.mdp_command.specs.Files.{most_bytes}
use Rattle.mdp_command_bounds_search.specs.WitnessDue.{MarksAreTrue}

-- each state that is marked as needed is, for the goals that the claim names
pub record HasTrueMarks (m : Mdp) (c : Certificate) : Type 0 where
  pub goals : List Bool
  pub marked : goal_marks m (plain_claim c.claim) ≡ Some goals
  pub needed : MarksAreTrue m goals c

-- the text of a certificate of this claim for the model, which reads as it; all rules hold, the claim is true, and so are its marks
pub record IsBoundsWitnessPrinted (claim : SubsystemClaim) (m : Mdp) (text : List ℕ) : Type 0 where
  pub cert : Certificate
  pub claimed : cert.claim ≡ claim
  pub spelled : text ≡ text_of cert
  pub short : length text ≤ most_bytes
  pub reads : outcome text ≡ Ok cert
  pub holds : IsAccepted m cert
  pub bound : IsBound m cert
  pub marks : HasTrueMarks m cert
