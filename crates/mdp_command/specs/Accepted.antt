-- Checkers of certificates, and which bytes one accepts.
use Rattle.std.specs.Prelude.{◌≡◌, ℕ, ◌≤◌, List, length, Result, Ok}
use Rattle.mdp_spec.specs.Mdp.{Mdp}
use Rattle.mdp_rows.specs.declared.rule.RowRule.{RowRule}
use Rattle.mdp_drn.specs.Reading.{Reads}
use Rattle.mdp_text.specs.declared.error.Refusal.{Refusal}
use Rattle.mdp_cert.specs.Reading as cert_text
use Rattle.mdp_check.specs.Check as check
use Rattle.mdp_check.specs.declared.answer.Answer.{Answer}
use Rattle.mdp_command.specs.{Files.{most_bytes}, Meaning.{Meaning, exact_meaning}}

-- a checker of certificates of a kind: what they mean, what a text reads as, what is answered to a model and a certificate, and which is accepted
pub record Checker : Type 1 where
  pub meaning : Meaning
  pub outcome : List ℕ → Result meaning.Certificate Refusal
  pub answer_to : Mdp → meaning.Certificate → Answer
  pub IsAccepted : Mdp → meaning.Certificate → Type 0

-- neither file has more than 2^30 bytes, the first reads as a model, the second reads as a certificate, and that is accepted for the model:
-- as many states, the claim's names are there, all rules hold, and no written term is past width
pub record AcceptedBy (checker : Checker) (rule : RowRule) (model_bytes cert_bytes : List ℕ) : Type 0 where
  pub short_model : length model_bytes ≤ most_bytes
  pub short_cert : length cert_bytes ≤ most_bytes
  pub model : Mdp
  pub reads : Reads model_bytes rule model
  pub cert : checker.meaning.Certificate
  pub text : checker.outcome cert_bytes ≡ Ok cert
  pub holds : checker.IsAccepted model cert

-- they are accepted, and the claim of the certificate is true of the model, whoever made the certificate
pub record IsTrueClaimBy (checker : Checker) (rule : RowRule) (model_bytes cert_bytes : List ℕ) : Type 0 where
  pub accepted : AcceptedBy checker rule model_bytes cert_bytes
  pub bound : checker.meaning.IsBound accepted.model accepted.cert

-- ---- the certificates of best values, upper bounds and subsystems

abbrev pub exact : Checker
exact = record { meaning = exact_meaning; outcome = cert_text.outcome; answer_to = check.answer_to; IsAccepted = check.IsAccepted }

abbrev pub Accepted : RowRule → List ℕ → List ℕ → Type 0
Accepted rule model_bytes cert_bytes = AcceptedBy exact rule model_bytes cert_bytes

abbrev pub IsTrueClaim : RowRule → List ℕ → List ℕ → Type 0
IsTrueClaim rule model_bytes cert_bytes = IsTrueClaimBy exact rule model_bytes cert_bytes
