-- States that meet a set whatever is chosen.
use Rattle.std.specs.Prelude.{◌≡◌, ℕ, ◌<◌, Bool, true, false, List, length}
use Rattle.mdp_spec.specs.Mdp.{Mdp, states_of, choices_at}
use Rattle.mdp_graph.specs.{Sets.{marked, can_enter, each_choice}, Reach.{falls}}

-- a state each choice of which has a successor in the set
abbrev pub must_step : Mdp → (ℕ → Bool) → ℕ → Bool
must_step m set s = each_choice (can_enter set) m s

-- each choice of a marked state that is no target has a marked successor of smaller rank
abbrev pub AllFall : Mdp → List Bool → List Bool → List ℕ → Type 0
AllFall m targets marks ranks = (s c : ℕ) → s < states_of m → marked marks s ≡ true → marked targets s ≡ false → c < length (choices_at m s) → falls m marks ranks s c ≡ true
