-- What a run answers and why, and what is true where it says yes.
use Rattle.std.specs.{Prelude.{◌≡◌, ◌⊎◌, ℕ, List, Some, None, Ok, Err, OnOk, IsTrue, IsFalse}, Io.KnownBytes.{IsAtEnd}}
use Rattle.mdp_spec.specs.Mdp.{Mdp}
use Rattle.mdp_rows.specs.{Limits.{IsModel}, declared.rule.RowRule.{RowRule}, declared.rule.RowRule.TheVariants.{Exact}}
use Rattle.mdp_drn.specs.{FromSource.{HadLeft}, Writing.{text_of}}
use Rattle.mdp_edge.specs.Faults.{FaultCounted}
use Rattle.mdp_job.specs.{Refusal.{no_job, no_memory}, declared.status.Status.{Status}}
use Rattle.mdp_job.specs.{declared.status.Status.TheVariants.{Done, ReadFault, WriteFault, Memory}, declared.words_error.WordsError.{WordsError}}
use Rattle.mdp_command.specs.{Accepted.{AcceptedBy}, Answered.{yes_text}, Meaning.{IsTrueOf, ClaimsTruly}, Read.{IsModelReadToEnd, IsSecondReadToEnd, is_of_model}, Said.{Said}}
use Rattle.mdp_command.specs.{Streams.{Input, HasFailed, Output}, Written.{WroteAll, Wrote}, Kinds.{checker_of}, Meanings.{kind_of, meaning_of}}
use Rattle.mdp_command.specs.{CheckShown.{IsCheckRead}, declared.kind.CertificateKind.{CertificateKind}}
use Rattle.mdp_checker.specs.Words.{Asked}

-- ---- why an answer may come

-- the words are refused, and no source is read
pub record IsRefused (e : WordsError) (model cert : Input) (said : Said) : Type 0 where
  pub says : (said ≡ Err (no_job e)) ⊎ (said ≡ Err no_memory)
  pub no_model : model.same
  pub no_cert : cert.same

-- what is due to the bytes of the two sources, by the kind that the certificate's first line names; or a fault that was counted, or want of memory.
-- Where the model is refused, the certificate isn't read. What is read is read to its end, but for a fault, too many bytes and want of memory
pub record IsChecked (rule : RowRule) (model cert : Input) (said : Said) : Type 0 where
  pub read : IsCheckRead None rule model cert said
  pub unread : IsTrue (is_of_model said) → cert.same
  pub model_end : (said ≡ Err no_memory) ⊎ IsModelReadToEnd model said
  pub cert_end : IsFalse (is_of_model said) → IsSecondReadToEnd cert said

abbrev pub HasCause : Asked → Input → Input → Said → Type 0
HasCause (Ok rule) model cert said = IsChecked rule model cert said
HasCause (Err e) model cert said = IsRefused e model cert said

-- what is decided before anything is written: an answer with its cause, and where it is a text, both sources are at their ends
pub record IsDecided (asked : Asked) (model cert : Input) (said : Said) : Type 0 where
  pub cause : HasCause asked model cert said
  pub ends : OnOk said (IsAtEnd model.after × IsAtEnd cert.after)

-- some answer has its cause, and was written
pub record IsAnswered (asked : Asked) (model cert : Input) (out : Output) (ended : Status) : Type 0 where
  pub said : Said
  pub cause : HasCause asked model cert said
  pub written : Wrote ended out said

-- ---- yes

-- `yes` was written, the bytes that the sources had left read as a model and are the text of a certificate of some kind, and what the certificate claims is
-- true of the model, whoever wrote it; both sources were read to their ends
pub record IsYesTrue (asked : Asked) (model cert : Input) (out : Output) : Type 0 where
  pub rule : RowRule
  pub words : asked ≡ Ok rule
  pub model_bytes : List ℕ
  pub cert_bytes : List ℕ
  pub had_model : HadLeft model.before model_bytes
  pub had_cert : HadLeft cert.before cert_bytes
  pub kind : CertificateKind
  pub true_claim : ClaimsTruly (meaning_of kind) rule model_bytes cert_bytes
  pub model_end : IsAtEnd model.after
  pub cert_end : IsAtEnd cert.after
  pub written : WroteAll out yes_text

-- the same of a model in the one text that is written of it, which says nothing of how other texts are read: where rows are taken as they are and the bytes
-- of the model are that text, what the certificate claims is true of the model
pub record IsYesTrueOfText (asked : Asked) (model cert : Input) (out : Output) : Type 0 where
  pub model_bytes : List ℕ
  pub cert_bytes : List ℕ
  pub had_model : HadLeft model.before model_bytes
  pub had_cert : HadLeft cert.before cert_bytes
  pub kind : CertificateKind
  pub true_of : asked ≡ Ok Exact → (m : Mdp) → IsModel m → model_bytes ≡ text_of m → IsTrueOf (meaning_of kind) m cert_bytes
  pub model_end : IsAtEnd model.after
  pub cert_end : IsAtEnd cert.after
  pub written : WroteAll out yes_text

-- ---- no other answer to bytes that are accepted

-- yes is said, but for want of memory and for faults that were counted
abbrev pub IsYesUnless : Input → Input → Output → Status → Type 0
IsYesUnless model cert out ended =
    (ended ≡ Done)
    ⊎ ((ended ≡ Memory)
    ⊎ (((ended ≡ ReadFault) × (HasFailed model ⊎ HasFailed cert))
    ⊎ ((ended ≡ WriteFault) × FaultCounted out.faults_before out.faults_after)))

-- where the bytes that the sources told are accepted
abbrev pub IsComplete : Asked → Input → Input → Output → Status → Type 0
IsComplete asked model cert out ended =
    (rule : RowRule) (model_bytes cert_bytes : List ℕ) → asked ≡ Ok rule → model.before ≡ Some model_bytes → cert.before ≡ Some cert_bytes
    → AcceptedBy (checker_of (kind_of cert_bytes)) rule model_bytes cert_bytes
    → IsYesUnless model cert out ended

-- ---- the whole

pub record HasRun (asked : Asked) (model cert : Input) (out : Output) (ended : Status) : Type 0 where
  pub answer : IsAnswered asked model cert out ended
  pub done : ended ≡ Done → IsYesTrue asked model cert out
  pub done_of_text : ended ≡ Done → IsYesTrueOfText asked model cert out
  pub complete : IsComplete asked model cert out ended
