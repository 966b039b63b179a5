-- Two subsystems of a model, of which one keeps each state that the other keeps: on the larger one no chance is smaller.
use Rattle.std.specs.Prelude.{◌≡◌, ℕ, ◌<◌, Bool, true, List}
use Rattle.mdp_math.specs.Rational.{◌≤ℚ◌}
use Rattle.mdp_spec.specs.{Mdp.{Mdp, states_of}, Tree.{Tree, IsStrategy, is_marked}, Hit.{hit}, Sub.{sub_of}}

-- each state that is kept is also one of `more`
abbrev pub IsIncluded : Mdp → List Bool → List Bool → Type 0
IsIncluded m kept more = (s : ℕ) → s < states_of m → is_marked kept s ≡ true → is_marked more s ≡ true

pub record ReachesMore (m : Mdp) (goals kept more : List Bool) : Type 0 where
  -- some tree on the larger subsystem hits at least what a tree on the smaller one hits
  pub most :
      (n u : ℕ) (t : Tree) (s : ℕ)
      → s < states_of m
      → IsStrategy (sub_of m goals kept) u n t s
      → (w : Tree) × IsStrategy (sub_of m goals more) 1 n w s × (hit (sub_of m goals kept) goals u n t s ≤ℚ hit (sub_of m goals more) goals 1 n w s)
  -- some tree on the smaller subsystem hits at most what a tree on the larger one hits
  pub least :
      (n u : ℕ) (t : Tree) (s : ℕ)
      → s < states_of m
      → IsStrategy (sub_of m goals more) u n t s
      → (w : Tree) × IsStrategy (sub_of m goals kept) 1 n w s × (hit (sub_of m goals kept) goals 1 n w s ≤ℚ hit (sub_of m goals more) goals u n t s)
