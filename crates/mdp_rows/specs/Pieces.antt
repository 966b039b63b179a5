-- A list cut into pieces at given places.
use Rattle.std.specs.Prelude.{◌≡◌, ℕ, ◌+◌, ◌-◌, ◌<◌, ◌≤◌, List, [], ◌∷◌, length, slice_index, take, drop}

-- what stands from place a to below place b
abbrev pub piece : {A : Type 0} → List A → ℕ → ℕ → List A
piece xs a b = take (b - a) (drop a xs)

-- the pieces between each place and the next
abbrev pub pieces : {A : Type 0} → List A → List ℕ → List (List A)
pieces xs [] = []
pieces xs (a ∷ []) = []
pieces xs (a ∷ b ∷ places) = piece xs a b ∷ pieces xs (b ∷ places)

-- places that don't descend, from 0 to the end
pub record ArePlaces (places : List ℕ) (end : ℕ) : Type 0 where
  pub some : 0 < length places
  pub first : slice_index places 0 ≡ 0
  pub ascending : (i : ℕ) → i + 1 < length places → slice_index places i ≤ slice_index places (i + 1)
  pub within : (i : ℕ) → i < length places → slice_index places i ≤ end
  pub last : slice_index places (length places - 1) ≡ end
