-- The text of a layered model.
use Rattle.std.specs.Prelude.{ℕ, List}
use Rattle.mdp_drn.specs.Writing.{text_of}
use Rattle.mdp_gen.specs.Layered.{layered_model}

-- the one text of that model
abbrev pub generated_text : ℕ → ℕ → ℕ → List ℕ
generated_text number layers width = text_of (layered_model number layers width)
