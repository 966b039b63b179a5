-- What is shown of the text that `bounds` of a discounted reward prints.
use Rattle.std.specs.Prelude.{◌≡◌, ℕ, ◌≤◌, List, length, Ok}
use Rattle.mdp_math.specs.Rational.{ℚ}
use Rattle.mdp_spec.specs.Mdp.{Mdp}
use Rattle.mdp_rows.specs.declared.dir.Dir.{Dir}
use Rattle.mdp_discount_rules.specs.{BoundsCert.{Certificate}, BoundsCheck.{IsAccepted, IsBound}}
use Rattle.mdp_discount_text.specs.{Reading.{outcome}, BoundsSpelling.{text_of}}
use Rattle.mdp_command.specs.Files.{most_bytes}
use Rattle.mdp_command_bounds_search.specs.{DiscountDue.{ClaimsSo}, Near.{IsDiscountNearOrWide}}

-- the text of a certificate of this claim for the model, which reads as it; all rules hold, the claim is true, and the values are as near as the digits
-- say, or the exact query is too wide
pub record IsDiscountBoundsPrinted (dir : Dir) (name : List ℕ) (f : ℚ) (digits : ℕ) (m : Mdp) (text : List ℕ) : Type 0 where
  pub cert : Certificate
  pub claim : ClaimsSo dir name f cert
  pub spelled : text ≡ text_of cert
  pub short : length text ≤ most_bytes
  pub reads : outcome text ≡ Ok cert
  pub holds : IsAccepted m cert
  pub bound : IsBound m cert
  pub near : IsDiscountNearOrWide digits dir name f m cert.lower cert.upper
