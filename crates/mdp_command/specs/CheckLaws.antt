-- Laws of what is due to a check, and of the texts of certificates, over the definitions alone.
use Rattle.std.specs.Prelude.{◌≡◌, ◌↔◌, ℕ, List, Ok}
use Rattle.mdp_spec.specs.{Mdp.{Mdp}, Row.{IsMdp}}
use Rattle.mdp_rows.specs.declared.rule.RowRule.{RowRule}
use Rattle.mdp_command.specs.{Accepted.{Checker, AcceptedBy}, Answered.{yes_text}, Files.{IsDueToPair}, CheckDue.{said_to_text}, CheckShown.{IsYes}}
use Rattle.mdp_command.specs.{Kinds.{checker_of}, Meanings.{kind_of}, declared.kind.CertificateKind.{CertificateKind}}

-- a text is due to the bytes of the two files exactly where they are accepted, and it is `yes`
abbrev pub YesIsAccepted : Checker → Type 0
YesIsAccepted checker =
    (rule : RowRule) (model cert text : List ℕ) → IsDueToPair (λ m bytes said. said ≡ said_to_text checker m bytes) rule model cert (Ok text) ↔ ((text ≡ yes_text) × AcceptedBy checker rule model cert)

-- it is due to no certificate that isn't true of the model
abbrev pub YesIsTrue : Checker → Type 0
YesIsTrue checker = (m : Mdp) (bytes text : List ℕ) → IsMdp m → Ok text ≡ said_to_text checker m bytes → IsYes checker m bytes text

-- the claim of a certificate that is accepted is true of the model
abbrev pub AcceptedIsTrue : Checker → Type 0
AcceptedIsTrue checker = (rule : RowRule) (model cert : List ℕ) (a : AcceptedBy checker rule model cert) → checker.meaning.IsBound a.model a.cert

-- bytes read as a certificate exactly where they are its text
abbrev pub ReadsItsText : Checker → Type 0
ReadsItsText checker = (bytes : List ℕ) (c : checker.meaning.Certificate) → (checker.outcome bytes ≡ Ok c) ↔ checker.meaning.IsText bytes c

-- a certificate's text names its kind, so no text is one of two kinds
abbrev pub NamesItsKind : CertificateKind → Type 0
NamesItsKind kind = (bytes : List ℕ) (c : (checker_of kind).meaning.Certificate) → (checker_of kind).meaning.IsText bytes c → kind_of bytes ≡ kind
