-- The least and the greatest number of a list.
use Rattle.std.proofs.Common.{List, [], ◌∷◌, Bool, if◌then◌else◌, pos}
use Rattle.mdp_math.specs.Rational.{ℚ, of_int, le_ℚ}

-- the first of two numbers where the test holds, otherwise the second
abbrev pub pick : (ℚ → ℚ → Bool) → ℚ → ℚ → ℚ
pick better x y = if better x y then x else y

-- the best number of a list by a test, the first of equals; 0 of none
abbrev pub best : (ℚ → ℚ → Bool) → List ℚ → ℚ
best better [] = of_int (pos 0)
best better (x ∷ []) = x
best better (x ∷ y ∷ ys) = pick better x (best better (y ∷ ys))

abbrev pub least : List ℚ → ℚ
least xs = best le_ℚ xs

abbrev pub greatest : List ℚ → ℚ
greatest xs = best (λ x y. le_ℚ y x) xs
