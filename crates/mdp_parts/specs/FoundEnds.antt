-- The maximal end components of a model, as contracts see them.
use Rattle.std.specs.Prelude.{◌≡◌, ℕ, ◌<◌, Bool, List, [], length, Option, slice_index_or}
use Rattle.mdp_spec.specs.Mdp.{Mdp, states_of, choices_at}
use Rattle.mdp_graph.specs.Sets.{marked}
use Rattle.mdp_ends.specs.Ends.{is_inside, AreEnds}

-- for each state the number of its end component, if it is in one, and for each of its choices whether it is inside
pub record FoundEnds : Type 0 where
  pub parts : List (Option ℕ)
  pub inner : List (List Bool)

-- whether choice c of state s is marked as inside
abbrev pub inner_at : FoundEnds → ℕ → ℕ → Bool
inner_at e s c = marked (slice_index_or e.inner s []) c

-- the maximal end components of a model, and the choices that are inside
pub record AreEndsOf (m : Mdp) (e : FoundEnds) : Type 0 where
  pub ends : AreEnds m e.parts
  pub count : length e.inner ≡ states_of m
  pub width : (s : ℕ) → s < states_of m → length (slice_index_or e.inner s []) ≡ length (choices_at m s)
  pub inner : (s c : ℕ) → s < states_of m → c < length (choices_at m s) → inner_at e s c ≡ is_inside m e.parts s c
