-- What is shown of the text of a command: what is printed for a model is shown of the bytes that read as it.
use Rattle.std.specs.Prelude.{ℕ, ◌≤◌, List, length}
use Rattle.mdp_spec.specs.Mdp.{Mdp}
use Rattle.mdp_rows.specs.declared.rule.RowRule.{RowRule}
use Rattle.mdp_drn.specs.Reading.{Reads}
use Rattle.mdp_command.specs.Files.{most_bytes}

-- the model's bytes read as a model for which the text is printed
pub record IsShownOf (IsPrinted : Mdp → List ℕ → Type 0) (rule : RowRule) (model_bytes text : List ℕ) : Type 0 where
  pub short : length model_bytes ≤ most_bytes
  pub model : Mdp
  pub reads : Reads model_bytes rule model
  pub printed : IsPrinted model text

-- the same of a model and the bytes of a second file
pub record AreShownOf (IsPrinted : Mdp → List ℕ → List ℕ → Type 0) (rule : RowRule) (model_bytes second_bytes text : List ℕ) : Type 0 where
  pub short : length model_bytes ≤ most_bytes
  pub model : Mdp
  pub reads : Reads model_bytes rule model
  pub second_short : length second_bytes ≤ most_bytes
  pub printed : IsPrinted model second_bytes text
