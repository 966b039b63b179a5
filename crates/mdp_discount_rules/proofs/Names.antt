-- The line `init` of an answer names a state.
use Rattle.std.proofs.Common.{◌≡◌, ℕ, ◌<◌, List, Option, Some, None, refl, lt-ltb}
use Rattle.std.specs.Prelude.{IsTrue}
use Rattle.mdp_math.specs.Rational.{ℚ}
use Rattle.mdp_spec.specs.Mdp.{value_at}
use Rattle.mdp_discount_rules.specs.Cert.{is_init}
use Rattle.mdp_text.specs.Heads.{init_by}

pub init-inside : (n : ℕ) (o : Option ℕ) (v : List ℚ) → ((s : ℕ) → o ≡ Some s → s < n) → IsTrue (is_init n (init_by o (λ s. Some (value_at v s))))
init-inside n None v below = refl
init-inside n (Some s) v below = lt-ltb s n (below s refl)
