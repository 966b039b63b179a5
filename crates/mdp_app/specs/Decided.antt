-- What was decided before anything is written.
use Rattle.std.specs.Prelude.{ℕ, List, Ok, IfOk}
use Rattle.mdp_job.specs.Job.{Asked}
use Rattle.mdp_command.specs.{Said.{Said}, Streams.{Input}}
use Rattle.mdp_app.specs.{Run.{HasCause, LeavesUnread, IsFromBytes, AreAtEnd}, Shown.{IsShown}}

-- what was decided has its cause and leaves what it doesn't read; a text is due to bytes of which that is shown which is due, and the sources are at their ends
pub record IsTextDecided (asked : Asked) (model second : Input) (text : List ℕ) : Type 0 where
  pub due : IsFromBytes asked model second (Ok text)
  pub shown : IsShown asked due.model_bytes due.second_bytes text
  pub ends : AreAtEnd asked model second

pub record IsDecided (asked : Asked) (model second : Input) (said : Said) : Type 0 where
  pub cause : HasCause asked model second said
  pub unread : LeavesUnread asked model second said
  pub done : IfOk said (IsTextDecided asked model second)
