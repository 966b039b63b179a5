-- Small models, computed.
use Rattle.std.proofs.{Common.{◌≡◌, ℕ, zero, suc, Bool, true, false, List, [], ◌∷◌, Option, Some, None, refl, arith, ℤ, pos, negsuc, ◌<ℤ◌}, lemmas.Int.{ints}}
use Rattle.std.specs.{Prelude.{codes}, Fmt.{digits}}
use Rattle.mdp_math.specs.{Gcd.{gcd, gcd_with_fuel}, Rational.{ℚ, of_int, ratio}, Written.{narrow, narrow_ℚ}}
use Rattle.mdp_math.proofs.Options.{Some_same}
use Rattle.mdp_num.specs.Value.{spelling}
use Rattle.mdp_spec.specs.Mdp.{Entry, Choice, State, Mdp}
use Rattle.mdp_spec.proofs.Small.{entry, labelled}
use Rattle.mdp_rows.specs.declared.dir.Dir.TheVariants.{Max, Min}
use Rattle.mdp_horizon.specs.{Objective.Objective.{until, total}, Whole.{rounded}, Scaled.{scaled, divided, rounded_sum}, Columns.{Bounds, bounds_of}}
use Rattle.mdp_horizon.specs.{Exact.{HasRoom}, Finite.{AreProbabilities}, Gap.{IsNear, MeetWithin, RowsHaveRoom}, BoundsSpelling.{bounds_text}}
use Rattle.mdp_horizon.specs.BoundsSpelling.PlainClaim.{until as until_claim, total as total_claim}

abbrev pub by : ℚ → List Entry → Choice
by reward row = record { row = row; rewards = reward ∷ [] }

abbrev pub model_of : List State → Mdp
model_of states = record { names = codes "pay" ∷ []; labels = codes "init" ∷ codes "goal" ∷ []; states = states }

abbrev pub all : List Bool
all = true ∷ true ∷ []

abbrev pub goal : List Bool
goal = false ∷ true ∷ []

abbrev answer : List (Option ℚ) → List (Option ℚ) → List (List ℕ) → Bounds
answer lower upper steps = record { lower = lower; upper = upper; steps = steps }

-- ---- rounding

-- 16/3 lies between 5 and 6, and -5/3 between -2 and -1
rounds : (rounded Min (pos 16) (pos 3) ≡ pos 5) × (rounded Max (pos 16) (pos 3) ≡ pos 6) × (rounded Min (negsuc 4) (pos 3) ≡ negsuc 1) × (rounded Max (negsuc 4) (pos 3) ≡ negsuc 0)
rounds = (refl, refl, refl, refl)

-- state 0 comes to the goal with 1/3, and earns 1/3; the goal goes back, and earns -1/2
abbrev pub thirds : Mdp
thirds =
    model_of
    (labelled (0 ∷ []) (by (ratio (pos 1) 3) (entry 0 (ratio (pos 2) 3) ∷ entry 1 (ratio (pos 1) 3) ∷ []) ∷ [])
    ∷ labelled (1 ∷ []) (by (ratio (negsuc 0) 2) (entry 0 (of_int (pos 1)) ∷ []) ∷ [])
    ∷ [])

-- in two steps with 5/9: with one decimal place from 5/10 to 6/10
rounded_outward : bounds_of Max (pos 10) thirds (until all goal) 2
    ≡ answer (Some (ratio (pos 1) 2) ∷ Some (of_int (pos 1)) ∷ []) (Some (ratio (pos 3) 5) ∷ Some (of_int (pos 1)) ∷ []) ((0 ∷ 0 ∷ []) ∷ (0 ∷ 0 ∷ []) ∷ [])
unfolding bounds_of rounded_sum narrow narrow_ℚ ratio of_int gcd gcd_with_fuel
rounded_outward = refl

-- without a step
no_step : bounds_of Min (pos 10) thirds (until all goal) 0 ≡ answer (Some (of_int (pos 0)) ∷ Some (of_int (pos 1)) ∷ []) (Some (of_int (pos 0)) ∷ Some (of_int (pos 1)) ∷ []) []
unfolding bounds_of rounded_sum narrow narrow_ℚ ratio of_int gcd gcd_with_fuel
no_step = refl

-- rewards of both signs: 1/3 in one step lies between 3/10 and 4/10, and -1/2 needs no rounding
both_signs : bounds_of Max (pos 10) thirds (total 0) 1
    ≡ answer (Some (ratio (pos 3) 10) ∷ Some (ratio (negsuc 0) 2) ∷ []) (Some (ratio (pos 2) 5) ∷ Some (ratio (negsuc 0) 2) ∷ []) ((0 ∷ 0 ∷ []) ∷ [])
unfolding bounds_of rounded_sum narrow narrow_ℚ ratio of_int gcd gcd_with_fuel
both_signs = refl

-- ---- a row without room

abbrev pub long : List Entry
long = entry 0 (ratio (pos 1) 85070591730234615865843651857942052864) ∷ entry 1 (ratio (pos 85070591730234615865843651857942052863) 85070591730234615865843651857942052864) ∷ []

abbrev column : List (Option ℤ)
column = Some (pos 0) ∷ Some (pos 10) ∷ []

-- its weights times 10 pass 127 bits, so it takes what is earned at once, 1/3, and the least or the greatest value of a target
without_room : (divided Min column (scaled (pos 10) (ratio (pos 1) 3) long) ≡ None)
    × (rounded_sum Min column (scaled (pos 10) (ratio (pos 1) 3) long) ≡ Some (pos 3)) × (rounded_sum Max column (scaled (pos 10) (ratio (pos 1) 3) long) ≡ Some (pos 14))
unfolding rounded_sum narrow ratio of_int gcd gcd_with_fuel
without_room = (refl, refl, refl)

-- so its values are the least and the greatest probability, and they are there
abbrev pub wide : Mdp
wide = model_of (labelled (0 ∷ []) (by (of_int (pos 0)) long ∷ []) ∷ labelled (1 ∷ []) (by (of_int (pos 0)) (entry 1 (of_int (pos 1)) ∷ []) ∷ []) ∷ [])

wide_values : bounds_of Max (pos 10) wide (until all goal) 1
    ≡ answer (Some (of_int (pos 0)) ∷ Some (of_int (pos 1)) ∷ []) (Some (of_int (pos 1)) ∷ Some (of_int (pos 1)) ∷ []) ((0 ∷ 0 ∷ []) ∷ [])
unfolding bounds_of rounded_sum narrow narrow_ℚ ratio of_int gcd gcd_with_fuel
wide_values = refl

-- a value that is missing is no probability
not_there : AreProbabilities 1 (None ∷ []) → ⊥
not_there h = let p = (h 0 (omega arith)).1 in cc

-- ---- how near the columns come

-- in two steps 6 tenths cover 5/9 and 5 follow it: 1 apart, at most 1 for each step
near : MeetWithin Max (pos 10) thirds (until all goal) 2 2 0
unfolding rounded_sum narrow narrow_ℚ ratio of_int gcd gcd_with_fuel
near = (pos 6, pos 5, refl, refl, (omega (arith, ints), omega (arith, ints)))

-- they don't meet
not_nearer : IsNear 0 (pos 5) (pos 6) → ⊥
not_nearer h = let p = h.1 in omega (arith, ints)

-- the row of state 0 has room over a column
roomy : HasRoom column (scaled (pos 10) (ratio (pos 1) 3) (entry 0 (ratio (pos 2) 3) ∷ entry 1 (ratio (pos 1) 3) ∷ []))
unfolding narrow ratio of_int gcd gcd_with_fuel
roomy = (omega (arith, ints), (pos 20, refl))

-- the long one has none: it has no common denominator of 127 bits
no_room : HasRoom column (scaled (pos 10) (ratio (pos 1) 3) long) → ⊥
unfolding narrow ratio of_int gcd gcd_with_fuel
no_room h = let p : pos 0 <ℤ pos 0 = h.0 in omega (arith, ints)

-- the rows of `thirds` have room for hundredths
rows_have : RowsHaveRoom 100 thirds (until all goal)
unfolding narrow ratio of_int gcd gcd_with_fuel
rows_have zero zero h l = (3, refl, omega arith)
rows_have (suc zero) zero h l = (1, refl, omega arith)
rows_have zero (suc c) h l = absurd (omega (arith, l))
rows_have (suc zero) (suc c) h l = absurd (omega (arith, l))
rows_have (suc (suc s)) c h l = absurd (omega (arith, h))

-- the long one of `wide` has a common denominator of 127 bits, and no room for tenths
rows_lack : RowsHaveRoom 10 wide (until all goal) → ⊥
unfolding narrow ratio of_int gcd gcd_with_fuel
rows_lack rows =
    let r = rows 0 0 (omega arith) (omega arith) in
    let b = Some_same (pos 85070591730234615865843651857942052864) (pos r.0) r.1 in
    omega (arith, ints, b, r.2)

-- ---- the text

printed :
    bounds_text Max (until_claim (codes "-") (codes "goal")) thirds (answer (Some (ratio (pos 1) 2) ∷ None ∷ []) (Some (ratio (pos 3) 5) ∷ None ∷ []) ((0 ∷ 0 ∷ []) ∷ (0 ∷ 0 ∷ []) ∷ []))
    ≡ codes "mdp-horizon-bounds 1\nclaim max until \"-\" \"goal\" 2\nstates 2\ninit 0 1/2 3/5\nstate 0 1/2 3/5\nstate 1 -inf inf\nstep 2 0 0\nstep 1 0 0\nend\n"
unfolding bounds_text spelling ratio of_int gcd gcd_with_fuel digits
printed = refl

printed_short :
    bounds_text Min (total_claim (codes "pay")) (model_of []) (answer [] [] []) ≡ codes "mdp-horizon-bounds 1\nclaim min total \"pay\" 0\nstates 0\ninit -\nend\n"
unfolding bounds_text spelling ratio of_int gcd gcd_with_fuel digits
printed_short = refl
