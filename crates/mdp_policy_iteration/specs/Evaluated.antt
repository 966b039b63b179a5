-- What is kept of the evaluation of a policy. The next policy is evaluated from it at those nodes alone that come to a change.
use Rattle.std.specs.{Prelude.{◌≡◌, ℕ, ◌<◌, Bool, true, false, List, [], ◌∷◌, length, slice_index, ◌⊎◌, Ok}, List.{All}}
use Rattle.mdp_math.specs.Rational.{ℚ}
use Rattle.mdp_spec.specs.Mdp.{value_at}
use Rattle.mdp_rows.specs.Preds.{is_among}
use Rattle.mdp_elim.specs.{Equation.{Equation}, System.{system}, Kept.{Kept, IsKept}}
use Rattle.mdp_elim.specs.Kept as elimination
use Rattle.mdp_policy_iteration.specs.{Problem.{Problem, IsPolicy, count, goes_on, taken, row_from, active_of, rows_of}, Places.{up_to}}
use Rattle.mdp_policy_iteration.specs.{Path.{stop_value, constant, filled, written_values}, Code.{RowsFit}}

-- which nodes are active; the constants; what elimination keeps; the values
pub record Evaluation : Type 0 where
  pub active : List Bool
  pub constants : List ℚ
  pub kept : Kept
  pub values : List ℚ

-- a node that stops has the value with which it stops
abbrev pub StopsWith : Problem → List ℕ → List ℚ → ℕ → Type 0
StopsWith p policy values s = goes_on (taken p policy s) ≡ false → value_at values s ≡ stop_value (taken p policy s)

-- the equations of a policy's nodes
abbrev pub equations_of : Problem → List ℕ → List ℚ → List Equation
equations_of p policy constants = system (rows_of p policy) (active_of p policy) (constants ∷ [])

pub record IsEvaluated (p : Problem) (policy : List ℕ) (e : Evaluation) : Type 0 where
  pub fit : RowsFit p policy
  pub marks : e.active ≡ active_of p policy
  pub constant : up_to (constant p policy) (count p) ≡ Ok e.constants
  pub kept : IsKept (equations_of p policy e.constants) e.kept
  pub value : e.values ≡ filled p policy e.kept.first
  pub written : written_values p policy ≡ Ok e.values

-- room for n nodes
pub record HasRoom (n : ℕ) (e : Evaluation) : Type 0 where
  pub active : length e.active ≡ n
  pub constants : length e.constants ≡ n
  pub kept : elimination.HasRoom n e.kept
  pub values : length e.values ≡ n

-- two policies that differ at some of these nodes alone; by the second one no other node leads to one of these
pub record DifferAt (p : Problem) (nodes before after : List ℕ) : Type 0 where
  pub same : (s : ℕ) → s < count p → is_among s nodes ≡ false → slice_index after s ≡ slice_index before s
  pub closed : (s : ℕ) → s < count p → is_among s nodes ≡ false → All (λ x. is_among x.target nodes ≡ false) (row_from s (taken p after s))

-- what is kept serves a policy that is to be evaluated at these nodes: they are all nodes, or it is of a policy that differs at these alone
pub record CanServe (p : Problem) (nodes policy : List ℕ) (e : Evaluation) : Type 0 where
  pub room : HasRoom (count p) e
  pub others :
      ((s : ℕ) → s < count p → is_among s nodes ≡ true) ⊎ ((before : List ℕ) × IsPolicy p before × IsEvaluated p before e × DifferAt p nodes before policy)
