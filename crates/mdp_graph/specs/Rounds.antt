-- The rounds in which the states outside the greatest sure set are removed, from all states on.
use Rattle.std.specs.Prelude.{◌≡◌, ℕ, ◌+◌, ◌<◌, ◌↔◌, Bool, true, ◌||◌, ◌==◌, nat_lt, List, length, slice_index}
use Rattle.mdp_spec.specs.Mdp.{Mdp, states_of}
use Rattle.mdp_graph.specs.{Sets.{marked}, Layers.{reached}, Sure.{inside_step}}

-- the states that are left after i rounds: those of a later round, and those of round 0, which are never removed
abbrev pub left_after : List ℕ → ℕ → ℕ → Bool
left_after rounds i s = (slice_index rounds s == 0) || nat_lt i (slice_index rounds s)

-- a goal can be reached by choices that stay in the set
abbrev pub CanStay : Mdp → List Bool → (ℕ → Bool) → ℕ → Type 0
CanStay m goals set s = (k : ℕ) × (reached (inside_step m set) (marked goals) k s ≡ true)

-- round i + 1 removes the states that can't reach a goal by choices that stay in what is left after round i, and no others
pub record AreRounds (m : Mdp) (goals : List Bool) (rounds : List ℕ) : Type 0 where
  pub count : length rounds ≡ states_of m
  pub next : (i s : ℕ) → s < states_of m → (left_after rounds (i + 1) s ≡ true) ↔ CanStay m goals (left_after rounds i) s
