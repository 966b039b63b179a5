-- The curve of a deadline: for each number of steps a lower and an upper value of one state.
use Rattle.std.specs.{Prelude.{◌≡◌, ℕ, suc, ◌≤◌, List, map, Option, Some, None, ℤ, pos, slice_index_or}, List.{range_with_len}}
use Rattle.mdp_math.specs.Rational.{ℚ, of_int, ratio, ◌+ℚ◌, ◌≤ℚ◌}
use Rattle.mdp_spec.specs.{Mdp.{Mdp}, Tree.{Tree, IsStrategy}, Bounds.{reward_at}}
use Rattle.mdp_rows.specs.{declared.dir.Dir.{Dir}, declared.dir.Dir.TheVariants.{Max, Min}}
use Rattle.mdp_horizon.specs.{declared.point.Point.{Point}, Objective.{Objective, value_of}, Between.{Claimed}, Table.{unfolded_steps, IsTable}}
use Rattle.mdp_horizon.specs.{Whole.{whole_at}, Columns.{cover, follow, shown, Bounds, bounds_of}}

-- ---- how it is computed

-- the covering value is the upper one for Max, and the lower one for Min
abbrev pub point_by : Dir → ℤ → Option ℤ → Option ℤ → Point
point_by Max one covering following = record { lower = shown one following; upper = shown one covering }
point_by Min one covering following = record { lower = shown one covering; upper = shown one following }

-- both columns at state s, with so many steps
abbrev pub point_of : Dir → ℤ → Mdp → Objective → ℕ → ℕ → Point
point_of dir one m o s k = point_by dir one (whole_at (cover dir one m o k) s) (whole_at (follow dir one m o k) s)

-- with 0 steps, with 1, and so on to n
unfoldable pub curve_of : Dir → ℤ → Mdp → Objective → ℕ → ℕ → List Point
curve_of dir one m o s n = map (point_of dir one m o s) (range_with_len 0 (suc n))

-- ---- what it means

-- past its end a curve says nothing
abbrev pub no_point : Point
no_point = record { lower = None; upper = None }

abbrev pub point_at : List Point → ℕ → Point
point_at curve k = slice_index_or curve k no_point

-- the greatest value within k steps at state s: no tree passes the upper value, and the tree of some table meets the lower one
pub record MaxLies (m : Mdp) (o : Objective) (s k : ℕ) (p : Point) : Type 0 where
  pub above : (u : ℕ) (t : Tree) → IsStrategy m u k t s → Claimed p.upper (λ y. value_of m o u k t s ≤ℚ y)
  pub table : List (List ℕ)
  pub takes : IsTable m k table
  pub reached : Claimed p.lower (λ x. x ≤ℚ value_of m o 1 k (unfolded_steps m table s) s)

-- the least value: no tree stays below the lower value, and the tree of some table doesn't pass the upper one
pub record MinLies (m : Mdp) (o : Objective) (s k : ℕ) (p : Point) : Type 0 where
  pub below : (u : ℕ) (t : Tree) → IsStrategy m u k t s → Claimed p.lower (λ x. x ≤ℚ value_of m o u k t s)
  pub table : List (List ℕ)
  pub takes : IsTable m k table
  pub reached : Claimed p.upper (λ y. value_of m o 1 k (unfolded_steps m table s) s ≤ℚ y)

-- so at each number of steps up to n
abbrev pub IsMaxCurve : Mdp → Objective → ℕ → ℕ → List Point → Type 0
IsMaxCurve m o s n curve = (k : ℕ) → k ≤ n → MaxLies m o s k (point_at curve k)

abbrev pub IsMinCurve : Mdp → Objective → ℕ → ℕ → List Point → Type 0
IsMinCurve m o s n curve = (k : ℕ) → k ≤ n → MinLies m o s k (point_at curve k)

-- both values are there, from 0 to 1
pub record IsFinite (p : Point) : Type 0 where
  pub low : ℚ
  pub high : ℚ
  pub lower : p.lower ≡ Some low
  pub upper : p.upper ≡ Some high
  pub from_0 : (of_int (pos 0) ≤ℚ low) × (of_int (pos 0) ≤ℚ high)
  pub to_1 : (low ≤ℚ of_int (pos 1)) × (high ≤ℚ of_int (pos 1))

abbrev pub IsFiniteCurve : ℕ → List Point → Type 0
IsFiniteCurve n curve = (k : ℕ) → k ≤ n → IsFinite (point_at curve k)

-- where both values are there, the upper one is at most 1/u more
abbrev pub IsNearPoint : ℕ → Point → Type 0
IsNearPoint u p = (low high : ℚ) → p.lower ≡ Some low → p.upper ≡ Some high → high ≤ℚ low +ℚ ratio (pos 1) u

abbrev pub IsNearCurve : ℕ → ℕ → List Point → Type 0
IsNearCurve u n curve = (k : ℕ) → k ≤ n → IsNearPoint u (point_at curve k)

-- with k steps it says the values of state s that the bounds of k steps say
abbrev pub IsPointOf : Bounds → ℕ → Point → Type 0
IsPointOf b s p = (p.lower ≡ reward_at b.lower s) × (p.upper ≡ reward_at b.upper s)

abbrev pub IsCurveOfBounds : Dir → ℤ → Mdp → Objective → ℕ → ℕ → List Point → Type 0
IsCurveOfBounds dir one m o s n curve = (k : ℕ) → k ≤ n → IsPointOf (bounds_of dir one m o k) s (point_at curve k)
