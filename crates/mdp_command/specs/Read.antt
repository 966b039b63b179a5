-- What was made of the sources of a run, whatever the command.
use Rattle.std.specs.{Prelude.{◌≡◌, ◌⊎◌, Bool, true, false, List, ℕ, Option, Result, Err, IfOk, IsOk}, Io.KnownBytes.{IsAtEnd}}
use Rattle.mdp_spec.specs.Mdp.{Mdp}
use Rattle.mdp_rows.specs.declared.rule.RowRule.{RowRule}
use Rattle.mdp_drn.specs.FromSource.{HadLeft}
use Rattle.mdp_job.specs.Refusal.{PlainRefusal, model_text, read_model, long_model, read_certificate, long_certificate, no_memory}
use Rattle.mdp_command.specs.{Files.{model_due, IsDueToModel, IsDueToPair}, Said.{Said}, Streams.{Input, HasFailed, IsStill}}

-- ---- one source

-- what was made of a source is what is due to the bytes that it had left
pub record IsDueToBytes {A : Type 0} (told : Option (List ℕ)) (due_to : List ℕ → Result A PlainRefusal) (result : Result A PlainRefusal) : Type 0 where
  pub bytes : List ℕ
  pub had : HadLeft told bytes
  pub is_due : result ≡ due_to bytes

-- a file: what is due to its bytes, or a fault that was counted, or want of memory
abbrev pub IsRead : {A : Type 0} → Input → (List ℕ → Result A PlainRefusal) → PlainRefusal → Result A PlainRefusal → Type 0
IsRead file due_to fault result = (IsDueToBytes file.before due_to result × IsStill file) ⊎ (((result ≡ Err fault) × HasFailed file) ⊎ (result ≡ Err no_memory))

-- a file was read to its end, but where it failed or had too many bytes
abbrev pub IsReadToEnd : {A : Type 0} → PlainRefusal → PlainRefusal → Input → Result A PlainRefusal → Type 0
IsReadToEnd fault long file result = ((result ≡ Err fault) × HasFailed file) ⊎ ((result ≡ Err long) ⊎ IsAtEnd file.after)

-- the model's file
abbrev pub IsModelReadToEnd : {A : Type 0} → Input → Result A PlainRefusal → Type 0
IsModelReadToEnd model result = IsReadToEnd read_model long_model model result

-- the second file, or memory was wanting
abbrev pub IsSecondReadToEnd : Input → Said → Type 0
IsSecondReadToEnd second said = (said ≡ Err no_memory) ⊎ IsReadToEnd read_certificate long_certificate second said

-- ---- a command that reads the model alone

-- this is due to the model of a source by the bytes that it had, and that is shown of those bytes and of a text
pub record IsModelWorked (rule : RowRule) (due : Mdp → Said → Type 0) (shows : List ℕ → List ℕ → Type 0) (model : Input) (said : Said) : Type 0 where
  pub bytes : List ℕ
  pub had : HadLeft model.before bytes
  pub is_due : IsDueToModel due (model_due rule bytes) said
  pub shown : IfOk said (shows bytes)
  pub still : IsStill model

-- that, or a fault that was counted, or want of memory
abbrev pub IsWorkOnModel : RowRule → (Mdp → Said → Type 0) → (List ℕ → List ℕ → Type 0) → Input → Said → Type 0
IsWorkOnModel rule due shows model said = IsModelWorked rule due shows model said ⊎ (((said ≡ Err read_model) × HasFailed model) ⊎ (said ≡ Err no_memory))

-- ---- a command that reads both sources, the model's first

-- this is due to the model and to the bytes of the second source, and that is shown of the bytes of both and of a text
pub record IsPairWorked (rule : RowRule) (due : Mdp → List ℕ → Said → Type 0) (shows : List ℕ → List ℕ → List ℕ → Type 0) (model second : Input) (said : Said) : Type 0 where
  pub model_bytes : List ℕ
  pub second_bytes : List ℕ
  pub had_model : HadLeft model.before model_bytes
  pub had_second : HadLeft second.before second_bytes
  pub is_due : IsDueToPair due rule model_bytes second_bytes said
  pub shown : IfOk said (shows model_bytes second_bytes)
  pub model_still : IsStill model
  pub second_still : IsStill second

-- the second source failed, behind a model that was read
pub record IsSecondFault (rule : RowRule) (model second : Input) (said : Said) : Type 0 where
  pub fault : HasFailed second
  pub says : said ≡ Err read_certificate
  pub model_bytes : List ℕ
  pub had_model : HadLeft model.before model_bytes
  pub model_read : IsOk (model_due rule model_bytes)
  pub model_still : IsStill model

-- that, or a fault that was counted, or want of memory
abbrev pub IsWorkOnPair : RowRule → (Mdp → List ℕ → Said → Type 0) → (List ℕ → List ℕ → List ℕ → Type 0) → Input → Input → Said → Type 0
IsWorkOnPair rule due shows model second said =
    IsPairWorked rule due shows model second said
    ⊎ (((said ≡ Err read_model) × HasFailed model)
    ⊎ (IsSecondFault rule model second said ⊎ (said ≡ Err no_memory)))

-- the answer is that of a model that couldn't be read, which comes before the second source is read
abbrev pub is_of_model : Said → Bool
is_of_model (Err read_model) = true
is_of_model (Err long_model) = true
is_of_model (Err (model_text n kind)) = true
is_of_model said = false
