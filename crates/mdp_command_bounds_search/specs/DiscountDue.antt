-- What is due to the command `bounds` of a discounted reward, to the direction, the name, the factor and the model. It's no function of them: which
-- bounds are found is left to the search.
use Rattle.std.specs.Prelude.{◌≡◌, ℕ, List, Option, Some, None, Ok, Err}
use Rattle.mdp_math.specs.Rational.{ℚ}
use Rattle.mdp_spec.specs.{Labels.{place_of}, Mdp.{Mdp}}
use Rattle.mdp_rows.specs.declared.dir.Dir.{Dir}
use Rattle.mdp_discount_rules.specs.{BoundsCert.{Certificate, Fits}, BoundsCheck.{IsAccepted}}
use Rattle.mdp_discount_text.specs.BoundsSpelling.{text_of}
use Rattle.mdp_job.specs.Refusal.{query_reward}
use Rattle.mdp_command.specs.Said.{Said}

-- the claim is that of this direction, this name and this factor
pub record ClaimsSo (dir : Dir) (name : List ℕ) (f : ℚ) (c : Certificate) : Type 0 where
  pub direction : c.dir ≡ dir
  pub named : c.name ≡ name
  pub discounted : c.factor ≡ f

-- the text of some certificate of this claim that is accepted for the model
pub record IsAcceptedText (dir : Dir) (name : List ℕ) (f : ℚ) (m : Mdp) (said : Said) : Type 0 where
  pub cert : Certificate
  pub claim : ClaimsSo dir name f cert
  pub fits : Fits cert
  pub accepted : IsAccepted m cert
  pub spelled : said ≡ Ok (text_of cert)

-- the refusal of a name that isn't there; else such a text
abbrev pub IsNamedDue : Dir → List ℕ → ℚ → Mdp → Option ℕ → Said → Type 0
IsNamedDue dir name f m None said = said ≡ Err query_reward
IsNamedDue dir name f m (Some r) said = IsAcceptedText dir name f m said

-- the name is looked up first
abbrev pub IsDiscountBoundsDue : Dir → List ℕ → ℚ → Mdp → Said → Type 0
IsDiscountBoundsDue dir name f m said = IsNamedDue dir name f m (place_of name m.names) said
