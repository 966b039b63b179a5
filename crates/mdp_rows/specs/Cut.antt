-- What a subsystem has of one state.
use Rattle.std.specs.Prelude.{ℕ, Bool, List, [], ◌∷◌, if◌then◌else◌}
use Rattle.mdp_spec.specs.{Mdp.{State}, Sub.{loop_at}}

-- a state that stays is as it was; any other has its labels, and a loop as its only choice
abbrev pub cut_state : List (List ℕ) → ℕ → State → Bool → State
cut_state names s x stays = if stays then x else record x { choices = loop_at names s ∷ [] }
