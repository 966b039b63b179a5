-- Laws of what is due to `bounds` of a witness, over the definitions alone.
use Rattle.std.specs.Prelude.{◌≡◌, ◌⊎◌, ℕ, List, Ok, Err}
use Rattle.mdp_math.specs.Rational.{ℚ}
use Rattle.mdp_spec.specs.{Mdp.{Mdp}, Row.{IsMdp}}
use Rattle.mdp_rows.specs.declared.rule.RowRule.{RowRule}
use Rattle.mdp_subsystem_bounds.specs.Cert.{SubsystemClaim}
use Rattle.mdp_job.specs.Refusal.{undecided}
use Rattle.mdp_command.specs.{Accepted.{IsTrueClaimBy}, Kinds.{subsystem_between}, Said.{Said}, Shown.{IsShownOf}}
use Rattle.mdp_command_bounds_search.specs.{WitnessDue.{IsBoundsWitnessDue}, WitnessShown.{IsBoundsWitnessPrinted}}

-- said is a text, or that the threshold lies between two values
pub record IsUndecidedAnswer (said : Said) : Type 0 where
  pub low : ℚ
  pub high : ℚ
  pub says : said ≡ Err (undecided low high)

pub record IsTextAnswer (said : Said) : Type 0 where
  pub text : List ℕ
  pub says : said ≡ Ok text

-- where a text is due, no refusal is but that the threshold lies between a lower and an upper value: the best probability isn't below it
abbrev pub TextExcludesRefusals : Type 0
TextExcludesRefusals =
    (claim : SubsystemClaim) (m : Mdp) (text : List ℕ) (said : Said) → IsMdp m → IsBoundsWitnessDue claim m (Ok text) → IsBoundsWitnessDue claim m said
    → IsTextAnswer said ⊎ IsUndecidedAnswer said

-- a text that is due is that of a certificate of the claim which is true of the model, with true marks
abbrev pub TextIsShown : Type 0
TextIsShown = (claim : SubsystemClaim) (m : Mdp) (text : List ℕ) → IsMdp m → IsBoundsWitnessDue claim m (Ok text) → IsBoundsWitnessPrinted claim m text

-- `bounds-check` accepts a text of which this is shown, with the bytes of the model, and its claim is true: on the kept states alone some policy, or each,
-- comes to the threshold
abbrev pub WitnessTextIsAccepted : Type 0
WitnessTextIsAccepted =
    (rule : RowRule) (claim : SubsystemClaim) (model text : List ℕ) → IsShownOf (IsBoundsWitnessPrinted claim) rule model text
    → IsTrueClaimBy subsystem_between rule model text
