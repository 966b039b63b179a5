-- The lists that elimination keeps: for each state the smaller states whose equations have an entry to it. So a step looks at these alone.
use Rattle.std.specs.{Prelude.{◌≡◌, ℕ, ◌<◌, ◌≢◌, List, [], length, slice_index_or, Some}, List.{All, Any, Contains}}
use Rattle.smallvec.specs.SmallVec.{SmallVec}
use Rattle.mdp_spec.specs.Mdp.{Entry}
use Rattle.mdp_elim.specs.{Entries.{Between}, Equation.{Equation, no_equation}, Elimination.{substituted}}

-- what stands past the last list
abbrev pub no_states : SmallVec ℕ
no_states = record { items = []; capacity = 0 }

-- state t is in the list of state v
abbrev pub IsListed : List (SmallVec ℕ) → ℕ → ℕ → Type 0
IsListed lists v t = Contains (slice_index_or lists v no_states).items t

-- the lists hold smaller states alone
abbrev pub HoldSmaller : List (SmallVec ℕ) → Type 0
HoldSmaller lists = (v t : ℕ) → IsListed lists v t → t < v

-- as many lists, and each holds what it held; smaller states alone, if it did before
pub record ListsMore (old new : List (SmallVec ℕ)) : Type 0 where
  pub count : length new ≡ length old
  pub keeps : (v t : ℕ) → IsListed old v t → IsListed new v t
  pub smaller : HoldSmaller old → HoldSmaller new

-- the row has an entry to v
abbrev pub LeadsTo : List Entry → ℕ → Type 0
LeadsTo row v = Any (λ x. x.target ≡ v) row

-- state t, whose row it is, is in the list of each greater state to which the row leads
abbrev pub ListsTargets : List (SmallVec ℕ) → ℕ → List Entry → Type 0
ListsTargets lists t row = All (λ x. t < x.target → x.target < length lists → IsListed lists x.target t) row

-- the equation of state t
abbrev pub at : List Equation → ℕ → Equation
at equations t = slice_index_or equations t no_equation

-- the entries of the states below n lead to states below m
abbrev pub LeadBelow : ℕ → ℕ → List Equation → Type 0
LeadBelow n m equations = (t : ℕ) → t < n → Between 0 m (at equations t).entries

-- the equations of the states below n, whose entries lead to states below m, and their lists
pub record IsLinked (n m : ℕ) (lists : List (SmallVec ℕ)) (equations : List Equation) : Type 0 where
  pub count : length equations ≡ n
  pub as_many : length lists ≡ n
  pub down : LeadBelow n m equations
  pub listed : (t : ℕ) → t < n → ListsTargets lists t (at equations t).entries
  pub smaller : HoldSmaller lists

-- the equation of state s is put into that of state t, and the others stay
pub record IsPutAt (s : ℕ) (pivot : Equation) (t : ℕ) (old new : List Equation) : Type 0 where
  pub here : substituted s pivot (at old t) ≡ Some (at new t)
  pub others : (u : ℕ) → u ≢ t → at new u ≡ at old u
