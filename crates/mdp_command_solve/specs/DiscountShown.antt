-- What is shown of the text that `discount` prints.
use Rattle.std.specs.Prelude.{◌≡◌, ℕ, ◌≤◌, List, length, Some, Ok}
use Rattle.mdp_math.specs.Rational.{ℚ}
use Rattle.mdp_spec.specs.{Labels.{place_of}, Mdp.{Mdp}}
use Rattle.mdp_rows.specs.declared.dir.Dir.{Dir}
use Rattle.mdp_discount.specs.Query.{EndsSo}
use Rattle.mdp_discount_rules.specs.{Cert.{Certificate}, Check.{IsAccepted, IsBound}}
use Rattle.mdp_discount_text.specs.{Spelling.{text_of}, Text.{outcome}}
use Rattle.mdp_command.specs.Files.{most_bytes}

-- the claim is that of this direction, this name and this factor
pub record ClaimsSo (dir : Dir) (name : List ℕ) (f : ℚ) (c : Certificate) : Type 0 where
  pub direction : c.dir ≡ dir
  pub named : c.name ≡ name
  pub discounted : c.factor ≡ f

-- the query of the reward of this name ends with this certificate
pub record IsComputed (dir : Dir) (name : List ℕ) (f : ℚ) (m : Mdp) (c : Certificate) : Type 0 where
  pub place : ℕ
  pub named : place_of name m.names ≡ Some place
  pub ends : EndsSo dir m place name f (Ok c)

-- the text of the computed certificate, of this claim for the model, which reads as it; all rules hold, and the claim is true: the values are the best
-- ones, and the policy comes close to them
pub record IsDiscountPrinted (dir : Dir) (name : List ℕ) (f : ℚ) (m : Mdp) (text : List ℕ) : Type 0 where
  pub cert : Certificate
  pub computed : IsComputed dir name f m cert
  pub claim : ClaimsSo dir name f cert
  pub spelled : text ≡ text_of cert
  pub short : length text ≤ most_bytes
  pub reads : outcome text ≡ Ok cert
  pub holds : IsAccepted m cert
  pub bound : IsBound m cert
