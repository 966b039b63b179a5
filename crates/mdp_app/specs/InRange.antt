-- The numbers of a job, which words give in range.
use Rattle.std.specs.Prelude.{◌≡◌, ◌≤◌, true, Ok, Err, pos}
use Rattle.mdp_math.specs.Rational.{of_int, ◌≤ℚ◌}
use Rattle.mdp_discount_rules.specs.Rules.{IsFactor}
use Rattle.mdp_job.specs.Job.{PlainTask, witness, discount, bounds_until, bounds_total, bounds_discount, bounds_witness, curve_until, curve_total}
use Rattle.mdp_job.specs.{Job.{PlainJob, on_model, on_pair, drill, Asked}, Words.{can_draw}}

-- the factor of discounted rewards is from 0 on and below 1, the threshold of a witness is at least 0, and the digits of bounds within a deadline, and of a
-- curve, are 30 at most
abbrev pub IsTaskInRange : PlainTask → Type 0
IsTaskInRange (witness dir stay label threshold) = of_int (pos 0) ≤ℚ threshold
IsTaskInRange (discount dir name factor) = IsFactor factor
IsTaskInRange (bounds_until dir stay label steps digits) = digits ≤ 30
IsTaskInRange (bounds_total dir name steps digits) = digits ≤ 30
IsTaskInRange (bounds_discount dir name factor digits) = IsFactor factor
IsTaskInRange (bounds_witness dir stay label threshold) = of_int (pos 0) ≤ℚ threshold
IsTaskInRange (curve_until dir stay label steps digits) = digits ≤ 30
IsTaskInRange (curve_total dir name steps digits) = digits ≤ 30
IsTaskInRange task = Unit {0}

-- that of what is asked of a model, and the numbers of a drill can be drawn
abbrev pub IsInRange : Asked → Type 0
IsInRange (Ok (on_model rule task)) = IsTaskInRange task
IsInRange (Ok (on_pair rule task)) = Unit {0}
IsInRange (Ok (drill number layers width)) = can_draw number layers width ≡ true
IsInRange (Err e) = Unit {0}

-- what words that are this job ask for
abbrev pub asked_for : PlainJob → Asked
asked_for job = Ok job
