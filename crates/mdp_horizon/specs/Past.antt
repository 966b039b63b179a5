-- A sum that needn't be divided, since it doesn't lie beyond the best one.
use Rattle.std.specs.Prelude.{List, Option, None, ℤ, pos, ◌+ℤ◌, ◌*ℤ◌, ◌≤ℤ◌, ◌<ℤ◌, int_lt, if◌then◌else◌}
use Rattle.mdp_rows.specs.{declared.dir.Dir.{Dir}, declared.dir.Dir.TheVariants.{Max, Min}}
use Rattle.mdp_horizon.specs.Scaled.{Scaled, total_of}

-- the sum of a choice before it is divided
abbrev pub summed : List (Option ℤ) → Scaled → Option ℤ
summed column x = if int_lt (pos 0) x.scale.common then total_of column x.scale.start x.terms else None

-- n/d doesn't lie beyond far
abbrev pub IsReached : Dir → ℤ → ℤ → ℤ → Type 0
IsReached Max far n d = n ≤ℤ (far *ℤ d)
IsReached Min far n d = (far *ℤ d) ≤ℤ n

-- n/d, rounded the other way, doesn't lie beyond far
abbrev pub IsBehind : Dir → ℤ → ℤ → ℤ → Type 0
IsBehind Max far n d = n <ℤ (far *ℤ d +ℤ d)
IsBehind Min far n d = (far *ℤ d) <ℤ (n +ℤ d)
