-- One truth value for each choice of each state of a model.
use Rattle.std.specs.Prelude.{◌≡◌, ℕ, ◌<◌, Bool, true, List, [], length, replicate, slice_index_or}
use Rattle.mdp_spec.specs.Mdp.{Mdp, states_of, choices_at}
use Rattle.mdp_graph.specs.Sets.{marked}

-- the value of choice c of state s
abbrev pub allowed_at : List (List Bool) → ℕ → ℕ → Bool
allowed_at lists s c = marked (slice_index_or lists s []) c

-- a list for each state, with a value for each of its choices
pub record AreChoices (m : Mdp) (lists : List (List Bool)) : Type 0 where
  pub count : length lists ≡ states_of m
  pub width : (s : ℕ) → s < states_of m → length (slice_index_or lists s []) ≡ length (choices_at m s)

-- one `true` for each choice of state s
abbrev pub each_true : Mdp → ℕ → List Bool
each_true m s = replicate (length (choices_at m s)) true
