-- Files that a run opens by the names that its words give.
use Rattle.std.specs.Prelude.{ℕ, List, Option}
use Rattle.mdp_command.specs.Streams.{Input, input}

-- two files, each opened by its name and its opener, of which this holds in the call; each tells what it has left and counts its faults. An opener can be
-- called once at most, so what is read of a file is all that was opened
pub record OnFiles {F : Type 0} (opens_model opens_second : List ℕ → F → Type 0) (left : F → Option (List ℕ)) (faults : F → ℕ) (model_name second_name : List ℕ) (holds : Input → Input → Type 0) : Type 0 where
  pub model : F
  pub model_after : F
  pub second : F
  pub second_after : F
  pub opened_model : opens_model model_name model
  pub opened_second : opens_second second_name second
  pub run : holds (input left faults model model_after) (input left faults second second_after)
