-- Lines that are listed one by one, as many as there are, up to the line `end`. What a line may say depends on the line before it.
use Rattle.std.specs.Prelude.{ℕ, List, Option, Result}
use Rattle.mdp_text.specs.declared.error.Refusal.{Refusal}

-- what line n says in a certificate of so many states, behind what the line before it said; and its words
pub record Listed (A : Type 0) : Type 0 where
  pub judge : ℕ → Option A → ℕ → List ℕ → Result A Refusal
  pub words : A → List (List ℕ)
