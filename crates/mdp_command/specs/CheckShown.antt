-- What is shown of a `yes`.
use Rattle.std.specs.Prelude.{◌≡◌, ℕ, List, Option, Ok}
use Rattle.mdp_spec.specs.Mdp.{Mdp}
use Rattle.mdp_rows.specs.declared.rule.RowRule.{RowRule}
use Rattle.mdp_command.specs.{Accepted.{Checker}, Answered.{yes_text}, CheckDue.{IsCheckDue}, Kinds.{checker_for}, Read.{IsWorkOnPair}, Said.{Said}, Shown.{AreShownOf}, Streams.{Input}}
use Rattle.mdp_command.specs.declared.kind.CertificateKind.{CertificateKind}

-- the text is `yes`: the bytes read as a certificate that is accepted for the model, and what it claims is true of the model
pub record IsYes (checker : Checker) (m : Mdp) (bytes text : List ℕ) : Type 0 where
  pub yes : text ≡ yes_text
  pub cert : checker.meaning.Certificate
  pub read : checker.outcome bytes ≡ Ok cert
  pub holds : checker.IsAccepted m cert
  pub bound : checker.meaning.IsBound m cert

-- by the checker of the kind that is asked for, or of that of the bytes
abbrev pub IsCheckPrinted : Option CertificateKind → Mdp → List ℕ → List ℕ → Type 0
IsCheckPrinted wanted m bytes text = IsYes (checker_for wanted bytes) m bytes text

-- what a check makes of its files: what is due to their bytes, and what is shown of a `yes`; or a fault that was counted, or want of memory
abbrev pub IsCheckRead : Option CertificateKind → RowRule → Input → Input → Said → Type 0
IsCheckRead wanted rule = IsWorkOnPair rule (IsCheckDue wanted) (AreShownOf (IsCheckPrinted wanted) rule)
