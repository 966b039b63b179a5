-- One round of the search for the maximal end components: each allowed choice that leaves its part is forbidden.
use Rattle.std.specs.{Prelude.{◌≡◌, ℕ, ◌<◌, Bool, true, false, cond, List, length, Option, Some, None, slice_index}, List.{list_any, range_with_len}}
use Rattle.mdp_spec.specs.Mdp.{Mdp, states_of, choices_at}
use Rattle.mdp_ends.specs.{Walks.{AreComponents}, Rounds.{keeps_part, still_allowed, KeepsEnds}}
use Rattle.mdp_parts.specs.Allowed.{allowed_at, AreChoices}

-- some choice of state s is allowed
abbrev pub some_allowed : Mdp → List (List Bool) → ℕ → Bool
some_allowed m allowed s = list_any (allowed_at allowed s) (range_with_len 0 (length (choices_at m s)))

-- the part of a state that has an allowed choice
abbrev pub key_of : Mdp → List (List Bool) → List ℕ → ℕ → Option ℕ
key_of m allowed parts s = cond (some_allowed m allowed s) (Some (slice_index parts s)) None

-- an allowed choice of state s leaves its part
abbrev pub Leaves : Mdp → List ℕ → List (List Bool) → ℕ → Type 0
Leaves m parts allowed s = (c : ℕ) × (c < length (choices_at m s)) × (allowed_at allowed s c ≡ true) × (keeps_part m parts s c ≡ false)

-- the choices of state s that leave are forbidden; `any` says whether there were any
pub record IsForbidden (m : Mdp) (parts : List ℕ) (s : ℕ) (old new : List (List Bool)) (any : Bool) : Type 0 where
  pub sizes : AreChoices m new
  pub others : (t c : ℕ) → (t ≡ s → ⊥) → allowed_at new t c ≡ allowed_at old t c
  pub at : (c : ℕ) → c < length (choices_at m s) → allowed_at new s c ≡ still_allowed m (allowed_at old) parts s c
  pub some : any ≡ true → Leaves m parts old s
  pub none : any ≡ false → (c : ℕ) → c < length (choices_at m s) → allowed_at old s c ≡ true → keeps_part m parts s c ≡ true

-- the choices of all states that leave are forbidden
pub record IsRound (m : Mdp) (parts : List ℕ) (old new : List (List Bool)) (any : Bool) : Type 0 where
  pub sizes : AreChoices m new
  pub at : (s c : ℕ) → s < states_of m → c < length (choices_at m s) → allowed_at new s c ≡ still_allowed m (allowed_at old) parts s c
  pub some : any ≡ true → (s : ℕ) × (s < states_of m) × Leaves m parts old s
  pub none : any ≡ false → (s c : ℕ) → s < states_of m → c < length (choices_at m s) → allowed_at old s c ≡ true → keeps_part m parts s c ≡ true

-- the strong components of the allowed choices, none of which leaves its own
pub record AreLastParts (m : Mdp) (allowed : List (List Bool)) (parts : List ℕ) : Type 0 where
  pub before : List (List Bool)
  pub round : IsRound m parts before allowed false
  pub components : AreComponents m (allowed_at before) parts
  pub keeps : KeepsEnds m (allowed_at before)
