-- What a run answers and why, which sources it leaves as they are, and when the work is done.
use Rattle.std.specs.{Prelude.{◌≡◌, ◌⊎◌, ℕ, Bool, true, false, List, Ok, Err, IsTrue, IsFalse}, Io.KnownBytes.{IsAtEnd}}
use Rattle.mdp_drn.specs.FromSource.{HadLeft}
use Rattle.mdp_edge.specs.Faults.{FaultCounted}
use Rattle.mdp_job.specs.{Job.{on_model, bounds_witness, Asked, reads_model, reads_second}, Refusal.{read_model, long_model, read_certificate, long_certificate, no_memory}, declared.status.Status.{Status}}
use Rattle.mdp_job.specs.declared.status.Status.TheVariants.{Done, ReadFault, WriteFault, Memory, Undecided}
use Rattle.mdp_command.specs.{Read.{is_of_model}, Said.{Said}, Streams.{Input, HasFailed, IsStill, Told, Output}, Written.{WroteAll, Wrote}}
use Rattle.mdp_app.specs.{Due.{IsDue, IsModelRead}, Shown.{IsShown}}

-- ---- why an answer may come

-- the sources that the job reads were read to their ends, but one with too many bytes; behind a model that is refused the second one isn't read
pub record AreReadToEnd (asked : Asked) (model second : Input) (said : Said) : Type 0 where
  pub model_end : IsTrue (reads_model asked) → (said ≡ Err long_model) ⊎ IsAtEnd model.after
  pub second_end : IsTrue (reads_second asked) → IsFalse (is_of_model said) → (said ≡ Err long_certificate) ⊎ IsAtEnd second.after

-- it is due to the bytes that the sources had left, which were read to their ends, and neither failed
pub record IsFromBytes (asked : Asked) (model second : Input) (said : Said) : Type 0 where
  pub model_bytes : List ℕ
  pub second_bytes : List ℕ
  pub had_model : HadLeft model.before model_bytes
  pub had_second : HadLeft second.before second_bytes
  pub is_due : IsDue asked model_bytes second_bytes said
  pub ends : AreReadToEnd asked model second said
  pub model_still : IsStill model
  pub second_still : IsStill second

-- the job reads the model's source, and that failed
pub record ModelFailed (asked : Asked) (model : Input) (said : Said) : Type 0 where
  pub reads : IsTrue (reads_model asked)
  pub fault : HasFailed model
  pub says : said ≡ Err read_model

-- the job reads the second source, and that failed, behind a model that was read to its end
pub record SecondFailed (asked : Asked) (model second : Input) (said : Said) : Type 0 where
  pub reads : IsTrue (reads_second asked)
  pub fault : HasFailed second
  pub says : said ≡ Err read_certificate
  pub model_bytes : List ℕ
  pub had_model : HadLeft model.before model_bytes
  pub model_read : IsModelRead asked model_bytes
  pub model_end : IsAtEnd model.after
  pub model_still : IsStill model

-- or memory is wanting
abbrev pub HasCause : Asked → Input → Input → Said → Type 0
HasCause asked model second said =
    IsFromBytes asked model second said ⊎ (ModelFailed asked model said ⊎ (SecondFailed asked model second said ⊎ (said ≡ Err no_memory)))

-- ---- which sources are left as they are

-- sources that the job or the answer leaves unread are as before
pub record LeavesUnread (asked : Asked) (model second : Input) (said : Said) : Type 0 where
  pub no_model : IsFalse (reads_model asked) → model.same
  pub no_second : IsFalse (reads_second asked) → second.same
  pub model_first : IsTrue (is_of_model said) → second.same

-- ---- the answer

-- some answer has its cause, leaves what it doesn't read, and was written
pub record IsAnswered (asked : Asked) (model second : Input) (out : Output) (ended : Status) : Type 0 where
  pub said : Said
  pub cause : HasCause asked model second said
  pub unread : LeavesUnread asked model second said
  pub written : Wrote ended out said

-- ---- the work

-- the sources that the job reads were read to their ends
pub record AreAtEnd (asked : Asked) (model second : Input) : Type 0 where
  pub model_end : IsTrue (reads_model asked) → IsAtEnd model.after
  pub second_end : IsTrue (reads_second asked) → IsAtEnd second.after

-- the work was done: a text is due, which is what the sink took
pub record IsWorkDone (asked : Asked) (model second : Input) (out : Output) : Type 0 where
  pub text : List ℕ
  pub due : IsFromBytes asked model second (Ok text)
  pub shown : IsShown asked due.model_bytes due.second_bytes text
  pub ends : AreAtEnd asked model second
  pub written : WroteAll out text

-- a source that the job reads failed
abbrev pub SourceFailed : Asked → Input → Input → Type 0
SourceFailed asked model second = (IsTrue (reads_model asked) × HasFailed model) ⊎ (IsTrue (reads_second asked) × HasFailed second)

-- bounds of a witness may leave it undecided whether the threshold is reached
abbrev pub may_be_undecided : Asked → Bool
may_be_undecided (Ok (on_model rule (bounds_witness dir stay label threshold))) = true
may_be_undecided asked = false

-- the work is done, but for want of memory and for faults that were counted; and where the search for bounds of a witness comes to bounds between which the
-- threshold lies
abbrev pub IsDoneUnless : Asked → Input → Input → Output → Status → Type 0
IsDoneUnless asked model second out ended =
    (ended ≡ Done)
    ⊎ ((ended ≡ Memory)
    ⊎ (((ended ≡ ReadFault) × SourceFailed asked model second)
    ⊎ (((ended ≡ WriteFault) × FaultCounted out.faults_before out.faults_after)
    ⊎ ((ended ≡ Undecided) × IsTrue (may_be_undecided asked)))))

-- where a text is due to the bytes that the sources told, the work is done
abbrev pub IsComplete : Asked → Input → Input → Output → Status → Type 0
IsComplete asked model second out ended =
    (model_bytes second_bytes text : List ℕ) → Told (reads_model asked) model model_bytes → Told (reads_second asked) second second_bytes
    → IsDue asked model_bytes second_bytes (Ok text)
    → IsDoneUnless asked model second out ended

-- ---- the whole

pub record HasRun (asked : Asked) (model second : Input) (out : Output) (ended : Status) : Type 0 where
  pub answer : IsAnswered asked model second out ended
  pub done : ended ≡ Done → IsWorkDone asked model second out
  pub complete : IsComplete asked model second out ended
