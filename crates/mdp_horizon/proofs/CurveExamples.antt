-- Curves of small models, computed.
use Rattle.std.proofs.{Common.{◌≡◌, ◌^◌, [], ◌∷◌, Option, Some, None, refl, pos, negsuc}}
use Rattle.std.specs.{Prelude.{codes}, Fmt.{digits}}
use Rattle.mdp_math.specs.{Gcd.{gcd, gcd_with_fuel}, Rational.{ℚ, of_int, ratio}, Written.{narrow, narrow_ℚ}}
use Rattle.mdp_num.specs.Value.{spelling}
use Rattle.mdp_rows.specs.declared.dir.Dir.TheVariants.{Max, Min}
use Rattle.mdp_horizon.specs.{declared.point.Point.{Point}, Objective.Objective.{until, total}, Scaled.{rounded_sum}}
use Rattle.mdp_horizon.specs.{Curve.{curve_of, point_at, no_point, IsFinite}, Finer.{widest, factor_of, unit_of}, CurveSpelling.{point_lines, curve_text}}
use Rattle.mdp_horizon.specs.BoundsSpelling.PlainClaim.{until as until_claim, total as total_claim}
use Rattle.mdp_horizon.proofs.BoundsExamples.{thirds, wide, all, goal}

abbrev point : Option ℚ → Option ℚ → Point
point lower upper = record { lower = lower; upper = upper }

-- ---- how fine the unit is

-- the rows of `thirds` have the common denominators 3 and 2 with their rewards 1/3 and -1/2, which are below 1
widest_thirds : widest thirds (total 0) ≡ record { common = 3; reach = 1 }
unfolding narrow ratio of_int gcd gcd_with_fuel
widest_thirds = refl

-- as fine as the steps cost: the least power of ten that isn't below their number
enough : (factor_of 0 (10 ^ 9) ≡ 1) × (factor_of 1 (10 ^ 9) ≡ 1) × (factor_of 2 (10 ^ 9) ≡ 10) × (factor_of 10 (10 ^ 9) ≡ 10) × (factor_of 300 (10 ^ 9) ≡ 1000)
enough = (refl, refl, refl, refl, refl)

-- as far as there is room
less : (factor_of 300 100 ≡ 100) × (factor_of 300 99 ≡ 10) × (factor_of 300 0 ≡ 1)
less = (refl, refl, refl)

-- 1 digit and 2 steps take hundredths
hundredths : unit_of thirds (until all goal) 1 2 ≡ 100
unfolding unit_of narrow ratio of_int gcd gcd_with_fuel
hundredths = refl

-- a row with a common denominator of 127 bits has no room for it
no_finer : unit_of wide (until all goal) 1 2 ≡ 10
unfolding unit_of narrow ratio of_int gcd gcd_with_fuel
no_finer = refl

-- ---- the values of each number of steps

-- to the goal with 0, 1/3 and 5/9: in hundredths 5/9 lies between 55 and 56
rounded_outward : curve_of Max (pos 100) thirds (until all goal) 0 2
    ≡ point (Some (of_int (pos 0))) (Some (of_int (pos 0))) ∷ point (Some (ratio (pos 33) 100)) (Some (ratio (pos 17) 50)) ∷ point (Some (ratio (pos 11) 20)) (Some (ratio (pos 14) 25)) ∷ []
unfolding curve_of rounded_sum narrow narrow_ℚ ratio of_int gcd gcd_with_fuel
rounded_outward = refl

-- without a step
no_step : curve_of Min (pos 10) thirds (until all goal) 1 0 ≡ point (Some (of_int (pos 1))) (Some (of_int (pos 1))) ∷ []
unfolding curve_of rounded_sum narrow narrow_ℚ ratio of_int gcd gcd_with_fuel
no_step = refl

-- a reward below 0, which tenths hold
earned : curve_of Min (pos 10) thirds (total 0) 1 1
    ≡ point (Some (of_int (pos 0))) (Some (of_int (pos 0))) ∷ point (Some (ratio (negsuc 0) 2)) (Some (ratio (negsuc 0) 2)) ∷ []
unfolding curve_of rounded_sum narrow narrow_ℚ ratio of_int gcd gcd_with_fuel
earned = refl

-- past its end a curve says nothing
past : point_at (point (Some (of_int (pos 0))) (Some (of_int (pos 0))) ∷ []) 1 ≡ no_point
past = refl

-- a missing value isn't one from 0 to 1
not_there : IsFinite no_point → ⊥
not_there f = let e = f.lower in cc

-- ---- the text

abbrev zero_point : Point
zero_point = point (Some (of_int (pos 0))) (Some (of_int (pos 0)))

abbrev half : Point
half = point (Some (ratio (pos 1) 2)) (Some (ratio (pos 3) 5))

-- two and more that are the same are a run, one is a step; and one that comes again begins anew
runs : point_lines (zero_point ∷ zero_point ∷ half ∷ zero_point ∷ zero_point ∷ zero_point ∷ []) ≡ codes "run 0 1 0 0\nstep 2 1/2 3/5\nrun 3 5 0 0\n"
unfolding spelling ratio of_int gcd gcd_with_fuel digits
runs = refl

-- points with one value in common are no run
half_same : point_lines (zero_point ∷ point (Some (of_int (pos 0))) None ∷ point None None ∷ []) ≡ codes "step 0 0 0\nstep 1 0 inf\nstep 2 -inf inf\n"
unfolding spelling ratio of_int gcd gcd_with_fuel digits
half_same = refl

printed : curve_text Max (until_claim (codes "-") (codes "goal")) 0 (zero_point ∷ half ∷ half ∷ [])
    ≡ codes "mdp-curve 1\nclaim max until \"-\" \"goal\"\ninit 0\nsteps 2\nstep 0 0 0\nrun 1 2 1/2 3/5\nend\n"
unfolding curve_text spelling ratio of_int gcd gcd_with_fuel digits
printed = refl

printed_short : curve_text Min (total_claim (codes "pay")) 7 (zero_point ∷ []) ≡ codes "mdp-curve 1\nclaim min total \"pay\"\ninit 7\nsteps 0\nstep 0 0 0\nend\n"
unfolding curve_text spelling ratio of_int gcd gcd_with_fuel digits
printed_short = refl
