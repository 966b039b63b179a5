-- The best gain that can be come to from each node, where a node that is an end component may stop with its own gain.
use Rattle.std.specs.Prelude.{◌≡◌, ℕ, suc, ◌<◌, List, length, slice_index, Some, Result}
use Rattle.mdp_math.specs.Rational.{ℚ}
use Rattle.mdp_spec.specs.{Mdp.{value_at}, Row.{row_sum}}
use Rattle.mdp_rows.specs.{declared.dir.Dir.{Dir}, Better.{IsAsGood}}
use Rattle.mdp_wide.specs.declared.too_wide.Part.TheVariants as part
use Rattle.mdp_policy_iteration.specs.Path.{Found}
use Rattle.mdp_wide.specs.Term.{WideTerm}
use Rattle.mdp_quot.specs.{Quotient.{Quotient, exits_at, row_of}, PathEnds.{PathEndsSo}, Problem.{component_of, outer_problem, outer_start}}
use Rattle.mdp_quot.specs.declared.outer_policy.Outer.{Outer}

-- each end component has a gain
abbrev pub HasGains : Quotient → List ℚ → Type 0
HasGains q gains = (k i : ℕ) → k < length q.exits → component_of q k ≡ Some i → i < length gains

-- for each node what it does and what it is worth: 0 stops, 1 + i takes exit i
pub record Answer : Type 0 where
  pub policy : List ℕ
  pub values : List ℚ

abbrev pub plain : Outer → Answer
plain x = record { policy = x.policy.items; values = x.values.items }

abbrev pub answer_of : Found → Answer
answer_of found = record { policy = found.policy; values = found.values }

-- the query ends so: with the policy and the values that its path ends with
abbrev pub OuterEndSo : Dir → Quotient → List ℚ → Result Answer WideTerm → Type 0
OuterEndSo dir q gains r = PathEndsSo part.Outer answer_of (outer_problem dir q gains) (outer_start q) r

-- each node takes one of its exits, or is an end component and stops
pub record IsOuterPolicy (q : Quotient) (policy : List ℕ) : Type 0 where
  pub count : length policy ≡ length q.exits
  pub exits : (k i : ℕ) → k < length q.exits → slice_index policy k ≡ suc i → i < length (exits_at q k)
  pub stops : (k : ℕ) → k < length q.exits → slice_index policy k ≡ 0 → (i : ℕ) × (component_of q k ≡ Some i)

-- a node that stops is worth its gain, any other what its exit leads to
pub record IsWorth (q : Quotient) (gains : List ℚ) (a : Answer) : Type 0 where
  pub count : length a.values ≡ length q.exits
  pub stopped : (k i : ℕ) → k < length q.exits → slice_index a.policy k ≡ 0 → component_of q k ≡ Some i → value_at a.values k ≡ value_at gains i
  pub left : (k i : ℕ) → k < length q.exits → slice_index a.policy k ≡ suc i → value_at a.values k ≡ row_sum (row_of q k i) a.values

-- and neither its own gain nor any exit of it is better
pub record IsBestOuter (dir : Dir) (q : Quotient) (gains : List ℚ) (a : Answer) : Type 0 where
  pub policy : IsOuterPolicy q a.policy
  pub worth : IsWorth q gains a
  pub gain : (k i : ℕ) → k < length q.exits → component_of q k ≡ Some i → IsAsGood dir (value_at a.values k) (value_at gains i)
  pub exit : (k i : ℕ) → k < length q.exits → i < length (exits_at q k) → IsAsGood dir (value_at a.values k) (row_sum (row_of q k i) a.values)
