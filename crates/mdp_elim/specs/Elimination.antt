-- State elimination in written arithmetic. The equations are those of the states 0, 1, ..; the greatest state is eliminated first.
--     divided        an entry p of the state to itself: the other entries and the constants are divided by 1 - p
--     substituted    an entry w of a smaller state to the eliminated one: w times the equation of that one takes its place
--     solution       after all eliminations, the values from state 0 on
-- An answer is the values, or the first state at whose elimination or evaluation a term is past width.
use Rattle.std.specs.{Prelude.{◌≢◌, ◌≡◌, ◌<◌, ℕ, zero, suc, List, [], ◌∷◌, ◌++◌, take, slice_index_or, Option, Some, None, Result, Ok, Err, pos}, List.{All}}
use Rattle.mdp_math.specs.{Rational.{ℚ, of_int, ◌-ℚ◌, ◌<ℚ◌}, Written.{written_add, written_mul, ◌>>=◌}}
use Rattle.mdp_num.specs.Written.{written_sub, written_div}
use Rattle.mdp_spec.specs.Written.{written_sum}
use Rattle.mdp_elim.specs.{Equation.{Equation, Values, no_equation}, Entries.{entry_to, without, each, divided_entry, plus_row}}

-- an equation, divided by 1 - p
unfoldable pub divided_rest : ℚ → Equation → Option Equation
divided_rest p e = do
  u ← written_sub (of_int (pos 1)) p
  entries ← each (divided_entry u) e.entries
  first ← written_div e.first u
  second ← written_div e.second u
  Some (record { entries = entries; first = first; second = second })

abbrev pub divided_where : Option ℚ → Equation → Option Equation
divided_where None rest = Some rest
divided_where (Some p) rest = divided_rest p rest

-- the equation without its entry to s
abbrev pub rest_of : ℕ → Equation → Equation
rest_of s e = record { entries = without s e.entries; first = e.first; second = e.second }

-- the equation of state s, solved for its value
abbrev pub divided : ℕ → Equation → Option Equation
divided s e = divided_where (entry_to s e.entries) (rest_of s e)

-- w times an equation, added to another
unfoldable pub plus_equation : ℚ → Equation → Equation → Option Equation
plus_equation w pivot e = do
  entries ← plus_row w pivot.entries e.entries
  more ← written_mul w pivot.first
  first ← written_add e.first more
  also ← written_mul w pivot.second
  second ← written_add e.second also
  Some (record { entries = entries; first = first; second = second })

abbrev pub substituted_where : Option ℚ → Equation → Equation → Option Equation
substituted_where None pivot rest = Some rest
substituted_where (Some w) pivot rest = plus_equation w pivot rest

-- w times the equation of s in place of the entry w to s
abbrev pub substituted : ℕ → Equation → Equation → Option Equation
substituted s pivot e = substituted_where (entry_to s e.entries) pivot (rest_of s e)

-- the equation of an eliminated state, and those of the smaller states
pub record Eliminated : Type 0 where
  pub pivot : Equation
  pub rest : List Equation

-- state s is eliminated
unfoldable pub eliminated : ℕ → List Equation → Option Eliminated
eliminated s equations = do
  pivot ← divided s (slice_index_or equations s no_equation)
  rest ← each (substituted s pivot) (take s equations)
  Some (record { pivot = pivot; rest = rest })

-- one more value by an equation whose entries lead to smaller states
unfoldable pub evaluated : Equation → Values → Option Values
evaluated e values = do
  x ← written_sum values.first e.first e.entries
  y ← written_sum values.second e.second e.entries
  Some (record { first = values.first ++ x ∷ []; second = values.second ++ y ∷ [] })

-- what can be made, or that a term at state s is past width
abbrev pub at_state : {A : Type 0} → ℕ → Option A → Result A ℕ
at_state s None = Err s
at_state s (Some x) = Ok x

infixl 10 ◌and_then◌
abbrev pub ◌and_then◌ : {A B : Type 0} → Result A ℕ → (A → Result B ℕ) → Result B ℕ
(Ok x) and_then f = f x
(Err s) and_then f = Err s

-- no values yet
abbrev pub no_values : Values
no_values = record { first = []; second = [] }

-- the values of the states below n
abbrev pub solution : ℕ → List Equation → Result Values ℕ
solution zero equations = Ok no_values
solution (suc s) equations = at_state s (eliminated s equations) and_then (λ e. solution s e.rest and_then (λ values. at_state s (evaluated e.pivot values)))

-- each elimination of the states below n can be made where no term is past width: no entry of a state to itself is 1, and an eliminated state's
-- entries lead to smaller states
abbrev pub CanEliminate : ℕ → List Equation → Type 0
CanEliminate zero equations = Unit {0}
CanEliminate (suc s) equations =
    (entry_to s (slice_index_or equations s no_equation).entries ≢ Some (of_int (pos 1)))
    × ((e : Eliminated) → eliminated s equations ≡ Some e → All (λ x. x.target < s) e.pivot.entries × CanEliminate s e.rest)

-- each elimination of the states below n divides by a number above 0, as far as no term is past width: 1 - p, for an entry p of the state to itself
abbrev pub DividesByPositive : ℕ → List Equation → Type 0
DividesByPositive zero equations = Unit {0}
DividesByPositive (suc s) equations =
    ((p : ℚ) → entry_to s (slice_index_or equations s no_equation).entries ≡ Some p → of_int (pos 0) <ℚ (of_int (pos 1) -ℚ p))
    × ((e : Eliminated) → eliminated s equations ≡ Some e → DividesByPositive s e.rest)
