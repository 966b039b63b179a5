-- What is due to a model and to the bytes of a certificate's text.
use Rattle.std.specs.Prelude.{◌≡◌, ℕ, List, Option}
use Rattle.mdp_math.specs.Result.{◌>>=◌}
use Rattle.mdp_spec.specs.Mdp.{Mdp}
use Rattle.mdp_command.specs.{Accepted.{Checker}, Answered.{said_of}, Files.{certificate_or_refusal}, Said.{Said}, Kinds.{checker_for}}
use Rattle.mdp_command.specs.declared.kind.CertificateKind.{CertificateKind}

-- the text is judged first, then the certificate is held against the model
abbrev pub said_to_text : Checker → Mdp → List ℕ → Said
said_to_text checker m text = certificate_or_refusal (checker.outcome text) >>= (λ c. said_of (checker.answer_to m c))

-- by the checker of the kind that is asked for, or of that of the text
abbrev pub IsCheckDue : Option CertificateKind → Mdp → List ℕ → Said → Type 0
IsCheckDue wanted m text said = said ≡ said_to_text (checker_for wanted text) m text
