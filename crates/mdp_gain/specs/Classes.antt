-- Which choices the search for a policy's closed classes allows.
use Rattle.std.specs.Prelude.{◌≡◌, ℕ, ◌<◌, List, Bool, length}
use Rattle.mdp_spec.specs.Mdp.{Mdp, states_of, choices_at}
use Rattle.mdp_parts.specs.Allowed.{allowed_at, AreChoices}
use Rattle.mdp_unichain.specs.{Component.{Component}, Classes.{takes}}

-- the policy's choice of state s alone is allowed there
pub record TakesAt (m : Mdp) (p : Component) (policy : List ℕ) (s : ℕ) (old new : List (List Bool)) : Type 0 where
  pub sizes : AreChoices m new
  pub others : (t c : ℕ) → (t ≡ s → ⊥) → allowed_at new t c ≡ allowed_at old t c
  pub at : (c : ℕ) → c < length (choices_at m s) → allowed_at new s c ≡ takes p policy s c

-- the policy's choices at the states of the component are allowed, and no others
abbrev pub TakesAll : Mdp → Component → List ℕ → List (List Bool) → Type 0
TakesAll m p policy allowed = (s c : ℕ) → s < states_of m → c < length (choices_at m s) → allowed_at allowed s c ≡ takes p policy s c
