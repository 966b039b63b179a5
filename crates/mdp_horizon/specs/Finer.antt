-- The unit of a curve: as much finer than what was asked for as its steps cost, as far as the rows have room for it.
use Rattle.std.specs.Prelude.{ℕ, zero, suc, ◌+◌, ◌*◌, ◌-◌, ◌/◌, ◌≤◌, ◌^◌, ◌&&◌, not, List, [], ◌∷◌, pos, unsigned_abs, unwrap_or, nat_lt, if◌then◌else◌}
use Rattle.mdp_spec.specs.Mdp.{Choice, State, Mdp}
use Rattle.mdp_rows.specs.declared.dir.Dir.{Dir}
use Rattle.mdp_horizon.specs.{declared.finer.Widest.{Widest}, declared.point.Point.{Point}, Objective.{Objective, gain_of}, Objective.Objective.{until, total}}
use Rattle.mdp_horizon.specs.{Scaled.{common_in}, Columns.{Bounds, bounds_of}, Curve.{curve_of}, Gap.{NoneIsWide}}

-- ---- how wide the rows are

abbrev pub greater : ℕ → ℕ → ℕ
greater x y = if nat_lt x y then y else x

-- the common denominator of a choice, where it is in width: without one a row has room in no unit
abbrev pub common_of : Objective → Choice → ℕ
common_of o x = unsigned_abs (unwrap_or (common_in (pos (gain_of o x).den) x.row) (pos 1))

-- a whole number above what it earns at once, whatever the sign
abbrev pub reach_of : Objective → Choice → ℕ
reach_of o x = unsigned_abs (gain_of o x).num / (gain_of o x).den + 1

-- the greatest of each: with a choice, with some, and with those of states
abbrev pub widened : Objective → Widest → Choice → Widest
widened o w x = record { common = greater w.common (common_of o x); reach = greater w.reach (reach_of o x) }

abbrev pub widened_by : Objective → Widest → List Choice → Widest
widened_by o w [] = w
widened_by o w (x ∷ xs) = widened_by o (widened o w x) xs

abbrev pub widened_in : Objective → Widest → List State → Widest
widened_in o w [] = w
widened_in o w (x ∷ states) = widened_in o (widened_by o w x.choices) states

abbrev pub widest : Mdp → Objective → Widest
widest m o = widened_in o (record { common = 1; reach = 1 }) m.states

-- ---- how fine the unit is

-- a probability is at most 1, and a total reward within so many steps at most the greatest reward for each
abbrev pub span : Objective → ℕ → ℕ
span (until stay goals) steps = 1
span (total r) steps = steps + 1

-- how much finer than `one` units to 1 it can be, so that no product of a row passes 127 bits
abbrev pub room : Widest → ℕ → ℕ → ℕ
room w span one = (2 ^ 127 - 1) / w.common / w.reach / span / one

-- ten times finer, where it isn't yet as fine as the steps cost, and there is room
abbrev pub finer : ℕ → ℕ → ℕ → ℕ
finer steps room factor = if nat_lt factor steps && not (nat_lt room (factor * 10)) then factor * 10 else factor

-- at most 7 times
abbrev pub finer_by : ℕ → ℕ → ℕ → ℕ
finer_by steps room zero = 1
finer_by steps room (suc times) = finer steps room (finer_by steps room times)

abbrev pub factor_of : ℕ → ℕ → ℕ
factor_of steps room = finer_by steps room 7

-- how many units make 1
unfoldable pub unit_of : Mdp → Objective → ℕ → ℕ → ℕ
unit_of m o digits steps = 10 ^ digits * factor_of steps (room (widest m o) (span o steps) (10 ^ digits))

-- bounds in that unit, and a curve of state s
abbrev pub finer_bounds : Dir → Mdp → Objective → ℕ → ℕ → Bounds
finer_bounds dir m o digits steps = bounds_of dir (pos (unit_of m o digits steps)) m o steps

abbrev pub finer_curve : Dir → Mdp → Objective → ℕ → ℕ → ℕ → List Point
finer_curve dir m o digits s steps = curve_of dir (pos (unit_of m o digits steps)) m o s steps

-- a claim where no row is wide and the unit is as fine as the steps cost
abbrev pub WhereFine : Dir → Mdp → Objective → ℕ → ℕ → Type 0 → Type 0
WhereFine dir m o digits steps claim = NoneIsWide dir (pos (unit_of m o digits steps)) m o steps → steps * 10 ^ digits ≤ unit_of m o digits steps → claim

-- where there is room for ten times the number of steps, the unit is as fine as these cost
abbrev pub UnitIsFine : Type 0
UnitIsFine =
    (m : Mdp) (o : Objective) (digits steps : ℕ) → steps ≤ 10 ^ 7 → steps * 10 ≤ room (widest m o) (span o steps) (10 ^ digits)
    → steps * 10 ^ digits ≤ unit_of m o digits steps
