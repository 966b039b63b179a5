-- The quotient of some model by its maximal end components.
use Rattle.std.specs.Prelude.{ℕ, List, Option}
use Rattle.mdp_spec.specs.Mdp.{Mdp}
use Rattle.mdp_rows.specs.Limits.{IsModel}
use Rattle.mdp_ends.specs.Ends.{AreEnds}
use Rattle.mdp_quot.specs.Quotient.{Quotient, IsQuotient}

-- a model, its end components, and that this is its quotient by them
pub record IsOfModel (q : Quotient) : Type 0 where
  pub m : Mdp
  pub parts : List (Option ℕ)
  pub model : IsModel m
  pub ends : AreEnds m parts
  pub quotient : IsQuotient m parts q
