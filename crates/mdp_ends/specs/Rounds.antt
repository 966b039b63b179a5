-- What a search for the maximal end components keeps from round to round, and where it ends.
use Rattle.std.specs.Prelude.{◌≡◌, ℕ, ◌<◌, ◌↔◌, Bool, true, false, ◌&&◌, ◌==◌, List, length, Option, Some, None, slice_index}
use Rattle.mdp_spec.specs.Mdp.{Mdp, states_of, choices_at, row_at}
use Rattle.mdp_graph.specs.Sets.{stays_in}
use Rattle.mdp_ends.specs.{Numbers.{is_numbered}, Ends.{IsEnd, part_of}}

-- the choices of each end component are allowed
abbrev pub KeepsEnds : Mdp → (ℕ → ℕ → Bool) → Type 0
KeepsEnds m allowed = (set : ℕ → Bool) (chosen : ℕ → ℕ → Bool) → IsEnd m set chosen → (s c : ℕ)
    → s < states_of m → set s ≡ true → c < length (choices_at m s) → chosen s c ≡ true → allowed s c ≡ true

-- choice c of state s doesn't leave the part of s
abbrev pub keeps_part : Mdp → List ℕ → ℕ → ℕ → Bool
keeps_part m parts s c = stays_in (λ t. slice_index parts t == slice_index parts s) (row_at m s c)

-- what is allowed after a round
abbrev pub still_allowed : Mdp → (ℕ → ℕ → Bool) → List ℕ → ℕ → ℕ → Bool
still_allowed m allowed parts s c = allowed s c && keeps_part m parts s c

-- the round forbids nothing
abbrev pub IsSettled : Mdp → (ℕ → ℕ → Bool) → List ℕ → Type 0
IsSettled m allowed parts = (s c : ℕ) → s < states_of m → c < length (choices_at m s) → allowed s c ≡ true → keeps_part m parts s c ≡ true

-- a state has a number where it has an allowed choice, and two states have the same where they are in one component
pub record AreLeft (m : Mdp) (allowed : ℕ → ℕ → Bool) (parts : List ℕ) (ends : List (Option ℕ)) : Type 0 where
  pub count : length ends ≡ states_of m
  pub none : (s c : ℕ) → s < states_of m → part_of ends s ≡ None → c < length (choices_at m s) → allowed s c ≡ false
  pub some : (s i : ℕ) → s < states_of m → part_of ends s ≡ Some i → (c : ℕ) × (c < length (choices_at m s)) × (allowed s c ≡ true)
  pub same : (s t i j : ℕ) → s < states_of m → t < states_of m → part_of ends s ≡ Some i → part_of ends t ≡ Some j → (i ≡ j) ↔ (slice_index parts s ≡ slice_index parts t)
  pub numbered : is_numbered 0 ends ≡ true
