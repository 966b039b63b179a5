-- A row of entries, each at an index: what a function of the index weighs in it.
use Rattle.std.proofs.Common.{ℕ, List}
use Rattle.mdp_math.specs.{Rational.{ℚ, ◌*ℚ◌}, Sum.{sum_of}}

-- the sum of entry times f at the entry's index
abbrev pub weigh : {A : Type 0} → (A → ℕ) → (A → ℚ) → (ℕ → ℚ) → List A → ℚ
weigh index entry f row = sum_of (λ x. entry x *ℚ f (index x)) row
