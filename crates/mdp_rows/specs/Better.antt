-- How two values compare where the greatest, or the least, is sought.
use Rattle.std.specs.{Prelude.{Bool, true, false}, declared.cmp.Ordering.{Ordering}, declared.cmp.Ordering.TheVariants.{Less, Equal, Greater}}
use Rattle.mdp_math.specs.Rational.{ℚ, ◌≤ℚ◌, ◌<ℚ◌}
use Rattle.mdp_rows.specs.{declared.dir.Dir.{Dir}, declared.dir.Dir.TheVariants.{Max, Min}}

-- greater for Max, less for Min
abbrev pub IsBetter : Dir → ℚ → ℚ → Type 0
IsBetter Max x y = y <ℚ x
IsBetter Min x y = x <ℚ y

-- at least for Max, at most for Min
abbrev pub IsAsGood : Dir → ℚ → ℚ → Type 0
IsAsGood Max x y = y ≤ℚ x
IsAsGood Min x y = x ≤ℚ y

-- whether a value that compares so with the best one is better
abbrev pub is_better : Dir → Ordering → Bool
is_better Max Less = false
is_better Max Equal = false
is_better Max Greater = true
is_better Min Less = true
is_better Min Equal = false
is_better Min Greater = false
