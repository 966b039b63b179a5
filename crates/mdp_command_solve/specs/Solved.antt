-- What is shown of the text that solves a query.
use Rattle.std.specs.Prelude.{◌≡◌, ◌≤◌, ℕ, List, length, Option, Some, None, Ok}
use Rattle.mdp_spec.specs.Mdp.{Mdp}
use Rattle.mdp_rows.specs.declared.dir.Dir.{Dir}
use Rattle.mdp_cert.specs.Cert as certificate
use Rattle.mdp_cert.specs.{Cert.{PlainClaim, Certificate}, Reading.{outcome}, Spelling.{text_of}}
use Rattle.mdp_check.specs.Check.{IsAccepted, IsBound}
use Rattle.mdp_job.specs.Job.{PlainQuery, reach, until, reward, mean}
use Rattle.mdp_command.specs.Files.{most_bytes}
use Rattle.mdp_command_solve.specs.Due.{claim_of}

-- the text of a certificate of this claim for the model, which reads as it; all rules hold, and the claim is true: the values are the best ones, and the
-- policy comes close to them
pub record IsClaimPrinted (claimed : PlainClaim) (m : Mdp) (text : List ℕ) : Type 0 where
  pub cert : Certificate
  pub claim : cert.claim ≡ claimed
  pub spelled : text ≡ text_of cert
  pub short : length text ≤ most_bytes
  pub reads : outcome text ≡ Ok cert
  pub holds : IsAccepted m cert
  pub bound : IsBound m cert

-- the claim that the values are the greatest, or the least, probabilities of reaching a state with the label, by way of states with the label `stay`
-- alone where there is one
abbrev pub IsReachPrinted : Dir → Option (List ℕ) → List ℕ → Mdp → List ℕ → Type 0
IsReachPrinted dir stay label = IsClaimPrinted (claim_of dir stay label)

-- the claim that they are the greatest, or the least, rewards of this name until such a state
abbrev pub IsRewardPrinted : Dir → List ℕ → List ℕ → Mdp → List ℕ → Type 0
IsRewardPrinted dir name label = IsClaimPrinted (certificate.reward dir name label)

-- the claim that the gains are the greatest, or the least, mean payoffs of this name, to within the spread
abbrev pub IsMeanPrinted : Dir → List ℕ → Mdp → List ℕ → Type 0
IsMeanPrinted dir name = IsClaimPrinted (certificate.mean dir name)

abbrev pub IsPrinted : Dir → PlainQuery → Mdp → List ℕ → Type 0
IsPrinted dir (reach label) = IsReachPrinted dir None label
IsPrinted dir (until stay label) = IsReachPrinted dir (Some stay) label
IsPrinted dir (reward name label) = IsRewardPrinted dir name label
IsPrinted dir (mean name) = IsMeanPrinted dir name
