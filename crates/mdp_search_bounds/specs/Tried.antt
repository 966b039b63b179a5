-- What came of the bounds that a search proposed, of any objective.
use Rattle.std.specs.Prelude.{ℕ, ◌<◌, ◌-◌, ◌*◌}

module _ {C : Type 0} (IsProposed : ℕ → C → Type 0) (IsHeld : C → Type 0) where
  -- the rules don't hold of bounds that were proposed with so many digits
  abbrev pub IsVain : ℕ → Type 0
  IsVain digits = (cert : C) × IsProposed digits cert × (IsHeld cert → ⊥)

  -- so of each number of digits that is tried at last: 12, 9, 6, 3 and 0
  abbrev pub FewerAreVain : Type 0
  FewerAreVain = (k : ℕ) → k < 5 → IsVain (12 - 3 * k)

  -- and of 30, the most
  abbrev pub AllAreVain : Type 0
  AllAreVain = IsVain 30 × FewerAreVain
