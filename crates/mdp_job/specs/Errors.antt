-- The refusals that answer the errors of what a command calls.
use Rattle.mdp_text.specs.declared.error.CertError.{CertError}
use Rattle.mdp_text.specs.declared.error.CertError.TheVariants as text
use Rattle.mdp_job.specs.declared.refusal.Refusal.{Refusal}
use Rattle.mdp_job.specs.declared.refusal.Refusal.TheVariants as refused

-- of a certificate's text: its first line that breaks a rule, and the rule, or out of memory
abbrev pub of_certificate : CertError → Refusal
of_certificate (text.At n kind) = refused.CertText n kind
of_certificate text.Memory = refused.Memory
