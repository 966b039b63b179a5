-- The solved equations of all states, one by one. Into the equation of a state those of the greater states are put, the greatest first, and then it is
-- solved for its own value. So the solved equation of a state depends on those of the states that it comes to alone: where a system differs from another
-- one at some states, and no other state leads to these, the others keep their solved equations and their values.
use Rattle.std.specs.{Prelude.{◌≡◌, ◌≢◌, ◌<◌, ◌+◌, ◌-◌, ℕ, zero, suc, true, false, List, length, slice_index, ◌⊎◌, Option, Some, None, Result, Ok}, List.{All}}
use Rattle.mdp_math.specs.{Rational.{ℚ}, Written.{◌>>=◌}}
use Rattle.mdp_spec.specs.{Mdp.{value_at}, Written.{written_sum}}
use Rattle.mdp_rows.specs.Preds.{is_among}
use Rattle.mdp_elim.specs.{Equation.{Equation, Values}, Entries.{Between}, Elimination.{divided, substituted, evaluated, at_state, ◌and_then◌, no_values}}
use Rattle.mdp_elim.specs.Predecessors.{at}

-- an equation, after those of the states low + n - 1, .., low have been put into it
abbrev pub put_in : List Equation → ℕ → ℕ → Equation → Option Equation
put_in solved low zero e = Some e
put_in solved low (suc n) e = substituted (low + n) (at solved (low + n)) e >>= put_in solved low n

-- the equation of state s of n states, solved for its value
abbrev pub solved_at : List Equation → ℕ → ℕ → Equation → Option Equation
solved_at solved n s e = put_in solved (suc s) (n - suc s) e >>= divided s

-- each equation leads to smaller states
abbrev pub LeadToSmaller : List Equation → Type 0
LeadToSmaller solved = (s : ℕ) → s < length solved → Between 0 s (at solved s).entries

-- the solved equations of a system, which lead to smaller states
pub record AreSolved (equations solved : List Equation) : Type 0 where
  pub count : length solved ≡ length equations
  pub each : (s : ℕ) → s < length equations → solved_at solved (length equations) s (at equations s) ≡ Some (at solved s)
  pub down : (s : ℕ) → s < length equations → Between 0 s (at solved s).entries

-- state s has its value by its solved equation, for the constants of one system
abbrev pub HasValue : (Equation → ℚ) → List Equation → List ℚ → ℕ → Type 0
HasValue constant solved values s = written_sum values (constant (at solved s)) (at solved s).entries ≡ Some (value_at values s)

-- the values by solved equations, for the constants of one system
pub record AreValues (constant : Equation → ℚ) (solved : List Equation) (values : List ℚ) : Type 0 where
  pub count : length values ≡ length solved
  pub each : (s : ℕ) → s < length solved → HasValue constant solved values s

-- what is kept of a system: its solved equations, and its values for both constants
pub record Kept : Type 0 where
  pub solved : List Equation
  pub first : List ℚ
  pub second : List ℚ

pub record IsKept (equations : List Equation) (k : Kept) : Type 0 where
  pub solved : AreSolved equations k.solved
  pub first : AreValues Equation.first k.solved k.first
  pub second : AreValues Equation.second k.solved k.second

-- two systems that differ at some states alone; no other state leads to one of these
pub record DifferAt (states : List ℕ) (old new : List Equation) : Type 0 where
  pub count : length new ≡ length old
  pub same : (t : ℕ) → t < length new → is_among t states ≡ false → at new t ≡ at old t
  pub closed : (t : ℕ) → t < length new → is_among t states ≡ false → All (λ x. is_among x.target states ≡ false) (at new t).entries

-- room for n states, whose equations lead to smaller ones
pub record HasRoom (n : ℕ) (k : Kept) : Type 0 where
  pub solved : length k.solved ≡ n
  pub first : length k.first ≡ n
  pub second : length k.second ≡ n
  pub down : (s : ℕ) → s < n → Between 0 s (at k.solved s).entries

-- what is kept can serve a system that is to be solved at some states: these are all, or it is that of a system that differs at these alone
pub record CanServe (states : List ℕ) (equations : List Equation) (k : Kept) : Type 0 where
  pub room : HasRoom (length equations) k
  pub others : ((t : ℕ) → t < length equations → is_among t states ≡ true) ⊎ ((old : List Equation) × IsKept old k × DifferAt states old equations)

-- places ascend
pub record Ascend (states : List ℕ) : Type 0 where
  pub each : (i j : ℕ) → i < j → j < length states → slice_index states i < slice_index states j

-- ---- one state after the other

-- a term is past width where the equation of state s, which is above low, is put into another
pub record StopsAbove (solved : List Equation) (low : ℕ) (e : Equation) (s : ℕ) : Type 0 where
  pub above : low < s
  pub below : s < length solved
  pub sum : Equation
  pub put : put_in solved (suc s) (length solved - suc s) e ≡ Some sum
  pub none : substituted s (at solved s) sum ≡ None

-- a term is past width where the equation of state t is solved for its value
pub record StopsAt (solved : List Equation) (t : ℕ) (e : Equation) : Type 0 where
  pub sum : Equation
  pub put : put_in solved (suc t) (length solved - suc t) e ≡ Some sum
  pub none : divided t sum ≡ None

-- how the equation of state t is solved: the greatest state at whose step a term is past width, before and after. Where there is one already, only the
-- steps of greater states are made.
abbrev pub IsTried : List Equation → List Equation → ℕ → Equation → Option ℕ → Option ℕ → Type 0
IsTried old new t e None None =
    (solved_at old (length old) t e ≡ Some (at new t)) × Between 0 t (at new t).entries × (length new ≡ length old) × ((u : ℕ) → u ≢ t → at new u ≡ at old u)
IsTried old new t e None (Some s) = (new ≡ old) × (StopsAbove old t e s ⊎ ((s ≡ t) × StopsAt old t e))
IsTried old new t e (Some low) None = ⊥
IsTried old new t e (Some low) (Some s) =
    (new ≡ old) × (StopsAbove old low e s ⊎ ((s ≡ low) × (sum : Equation) × (put_in old (suc low) (length old - suc low) e ≡ Some sum)))

-- the values of the states below n, or the first state at which a term is past width
abbrev pub values_by : List Equation → ℕ → Result Values ℕ
values_by solved zero = Ok no_values
values_by solved (suc s) = values_by solved s and_then (λ v. at_state s (evaluated (at solved s) v))

-- at other states than these the equations of a system stay solved, whatever the solved equations of these states are
abbrev pub StaySolved : List ℕ → List Equation → List Equation → Type 0
StaySolved states equations solved =
    (new : List Equation) → ((u : ℕ) → is_among u states ≡ false → at new u ≡ at solved u)
    → (s : ℕ) → s < length equations → is_among s states ≡ false → solved_at new (length equations) s (at equations s) ≡ Some (at new s)

-- the solved equations of other states than these lead to such states
abbrev pub StayOutside : List ℕ → List Equation → Type 0
StayOutside states solved = (s : ℕ) → s < length solved → is_among s states ≡ false → All (λ x. is_among x.target states ≡ false) (at solved s).entries

-- the other states have their values
abbrev pub OthersHaveValues : (Equation → ℚ) → List ℕ → List Equation → List ℚ → Type 0
OthersHaveValues constant states solved values = (s : ℕ) → s < length solved → is_among s states ≡ false → HasValue constant solved values s
