-- The text of a curve.
use Rattle.std.specs.Prelude.{ℕ, suc, ◌+◌, Bool, true, false, List, [], ◌∷◌, ◌++◌, ◌&&◌, ◌==◌, length, Option, Some, None, decimal, codes, if◌then◌else◌}
use Rattle.mdp_math.specs.Rational.{ℚ}
use Rattle.mdp_num.specs.Equal.{eq_ℚ}
use Rattle.mdp_rows.specs.declared.dir.Dir.{Dir}
use Rattle.mdp_text.specs.{Spelling.{line, ◌␣◌, dir_text, init_text, end_text}, declared.init.Init.TheVariants.{Start}}
use Rattle.mdp_horizon.specs.{declared.point.Point.{Point}, BoundsSpelling.{PlainClaim, objective_text, lower_text, upper_text}}

abbrev pub version_text : List ℕ
version_text = codes "mdp-curve 1"

abbrev pub claim_text : Dir → PlainClaim → List ℕ
claim_text dir claim = codes "claim" ␣ dir_text dir ␣ objective_text claim

abbrev pub steps_text : ℕ → List ℕ
steps_text n = codes "steps" ␣ decimal n

-- ---- the lines of the steps

-- whether two values are the same, and two points
abbrev pub same_value : Option ℚ → Option ℚ → Bool
same_value None None = true
same_value None (Some y) = false
same_value (Some x) None = false
same_value (Some x) (Some y) = eq_ℚ x y

abbrev pub same_point : Point → Point → Bool
same_point p q = same_value p.lower q.lower && same_value p.upper q.upper

abbrev pub values_text : Point → List ℕ
values_text p = lower_text p.lower ␣ upper_text p.upper

-- the numbers of steps from this one on, with so many behind it
abbrev pub numbers_text : ℕ → ℕ → List ℕ
numbers_text first more = if more == 0 then codes "step" ␣ decimal first else codes "run" ␣ decimal first ␣ decimal (first + more)

abbrev pub run_text : ℕ → ℕ → Point → List ℕ
run_text first more p = numbers_text first more ␣ values_text p

-- a run that has begun, and the points behind it: each run is as long as it can be
abbrev pub lines_from : ℕ → ℕ → Point → List Point → List ℕ
lines_from first more p [] = line (run_text first more p)
lines_from first more p (q ∷ points) = if same_point p q then lines_from first (suc more) p points else line (run_text first more p) ++ lines_from (suc (first + more)) 0 q points

abbrev pub point_lines : List Point → List ℕ
point_lines [] = []
point_lines (p ∷ points) = lines_from 0 0 p points

-- ---- the whole

-- the number of steps of the last point
abbrev pub steps_in : List Point → ℕ
steps_in [] = 0
steps_in (p ∷ points) = length points

unfoldable pub curve_text : Dir → PlainClaim → ℕ → List Point → List ℕ
curve_text dir claim s points =
    (line version_text ++ line (claim_text dir claim)) ++ (line (init_text (Start s)) ++ (line (steps_text (steps_in points)) ++ (point_lines points ++ line end_text)))
