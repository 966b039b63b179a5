-- Written elimination of a chain, for one or two columns.
use Rattle.std.specs.Prelude.{ℕ, Bool, List, [], ◌∷◌, length, take, Result, Ok, Err}
use Rattle.mdp_math.specs.Rational.{ℚ}
use Rattle.mdp_spec.specs.Mdp.{Entry}
use Rattle.mdp_elim.specs.{Equation.{Values}, Elimination.{solution}, System.{system}}

-- as many columns of values as there are columns of constants
abbrev pub columns_of : ℕ → Values → List (List ℚ)
columns_of n values = take n (values.first ∷ values.second ∷ [])

abbrev pub kept : {A B : Type 0} → (A → B) → Result A ℕ → Result B ℕ
kept f (Ok x) = Ok (f x)
kept f (Err s) = Err s

-- a vector of values for each column, or the first state with a term past width
abbrev pub written_solution : List (List Entry) → List Bool → List (List ℚ) → Result (List (List ℚ)) ℕ
written_solution rows active columns = kept (columns_of (length columns)) (solution (length rows) (system rows active columns))
