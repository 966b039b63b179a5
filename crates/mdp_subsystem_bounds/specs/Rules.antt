-- The rules for bounds of a subsystem: those of bounds of reaching a goal on the model of the kept states alone, where each upper value is 1, so that they
-- say something of the lower values, the choices and the ranks alone; and at the end, at no state:
--     rule 24  the lower value of the start is at least the threshold
-- What they show: on the kept states alone some policy, or each, reaches a goal from the start with the threshold at least.
use Rattle.std.specs.Prelude.{ℕ, Bool, List, [], ◌∷◌, ◌++◌, Some, None}
use Rattle.std.proofs.Math.ListN.{replicate}
use Rattle.mdp_math.specs.Rational.{ℚ, le_ℚ, ◌≤ℚ◌}
use Rattle.mdp_spec.specs.{Mdp.{Mdp, states_of, value_at}, Sub.{sub_of}, Bounds.{SubMax, SubMin}}
use Rattle.mdp_farkas.specs.{Compare.{1ℚ}, Verdict.{Check}}
use Rattle.mdp_rows.specs.{declared.dir.Dir.{Dir}, declared.dir.Dir.TheVariants.{Max, Min}}
use Rattle.mdp_bounds.specs.Reach.{bounds_checks, IsReachBounds}
use Rattle.mdp_claims.specs.declared.rule.Rule.TheVariants.{StartReachesThreshold}

-- 1 for each state
abbrev pub ones : Mdp → List ℚ
ones m = replicate (states_of m) 1ℚ

-- rule 24
abbrev pub start_check : ℕ → ℚ → List ℚ → Check
start_check start threshold lower = record { rule = StartReachesThreshold; state = None; choice = None; holds = Some (le_ℚ threshold (value_at lower start)) }

module _ (dir : Dir) (m : Mdp) (goals : List Bool) (start : ℕ) (threshold : ℚ) (kept : List Bool) (lower : List ℚ) (choices ranks : List ℕ) where
  -- the states ascend, at a state the rules, in a rule the choices; the start comes last
  abbrev pub subsystem_checks : List Check
  subsystem_checks = bounds_checks dir (sub_of m goals kept) goals lower (ones m) choices ranks ++ start_check start threshold lower ∷ []

  -- what yes means: the rules hold in exact numbers, and no sum that a check makes is past width
  pub record AreSubsystemBounds : Type 0 where
    pub rules : IsReachBounds dir (sub_of m goals kept) goals lower (ones m) choices ranks
    pub reached : threshold ≤ℚ value_at lower start

-- what they show
abbrev pub Reaches : Dir → Mdp → List Bool → List Bool → ℕ → ℚ → Type 0
Reaches Max = SubMax
Reaches Min = SubMin
