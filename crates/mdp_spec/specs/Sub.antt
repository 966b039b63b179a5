-- Subsystems (Funke, Jantsch and Baier 2020): each state that is neither kept nor a goal is left with one choice, a loop that earns nothing.
use Rattle.std.specs.Prelude.{ℕ, suc, Bool, List, [], ◌∷◌, map, pos, ◌||◌, if◌then◌else◌}
use Rattle.mdp_math.specs.Rational.{of_int}
use Rattle.mdp_spec.specs.{Mdp.{Choice, State, Mdp}, Tree.{is_marked}}

-- a loop of probability 1, with reward 0 under each reward name
abbrev pub loop_at : List (List ℕ) → ℕ → Choice
loop_at names s = record { row = record { target = s; prob = of_int (pos 1) } ∷ []; rewards = map (λ name. of_int (pos 0)) names }

-- the states from number s on
abbrev pub cut_from : List (List ℕ) → ℕ → List State → (ℕ → Bool) → List State
cut_from names s [] stays = []
cut_from names s (x ∷ states) stays = (if stays s then x else record x { choices = loop_at names s ∷ [] }) ∷ cut_from names (suc s) states stays

unfoldable pub sub_of : Mdp → List Bool → List Bool → Mdp
sub_of m goals kept = record m { states = cut_from m.names 0 m.states (λ s. is_marked goals s || is_marked kept s) }

-- a policy of the model, read on its subsystem: its own choice at each state that stays as it is, and choice 0, the loop, at any other
abbrev pub policy_from : ℕ → List ℕ → (ℕ → Bool) → List ℕ
policy_from s [] stays = []
policy_from s (c ∷ policy) stays = (if stays s then c else 0) ∷ policy_from (suc s) policy stays

abbrev pub policy_on : List Bool → List Bool → List ℕ → List ℕ
policy_on goals kept policy = policy_from 0 policy (λ s. is_marked goals s || is_marked kept s)
