-- Numbers of 64 bits in the place of wider ones.
use Rattle.std.specs.Prelude.{ℕ, ◌+◌, List, [], ◌∷◌, map, Option, Some, ℤ, unsigned_abs}
use Rattle.mdp_horizon.specs.{declared.choice.Term.{Term}, declared.choice.ShortTerm.{ShortTerm}}

-- a short entry as a wider one, and a row of them
abbrev pub wide_term : ShortTerm → Term
wide_term t = record { target = t.target; weight = t.weight }

abbrev pub wide_terms : List ShortTerm → List Term
wide_terms ts = map wide_term ts

-- the magnitudes of all weights together
abbrev pub weights_of : List ShortTerm → ℕ
weights_of [] = 0
weights_of (t ∷ ts) = unsigned_abs t.weight + weights_of ts

-- values of which none is missing
abbrev pub known : List ℤ → List (Option ℤ)
known values = map Some values
