-- The trial of one state, as the code makes it: the state is taken out, the set is evaluated, and the state put back where it stays.
use Rattle.std.specs.Prelude.{◌≡◌, ℕ, Bool, false, List, slice_set, Result, Ok}
use Rattle.mdp_math.specs.Rational.{ℚ}
use Rattle.mdp_witness.specs.{declared.trial.Trial.{Trial}, declared.trial.Trial.TheVariants.{Goes, Needed, PastWidth}, Trial.{trial_of, stays, is_wide}}

-- the last evaluation after the trial
abbrev pub IsLast : {E W : Type 0} → Trial → Result E W → E → E → Type 0
IsLast Goes evaluation last next = evaluation ≡ Ok next
IsLast Needed evaluation last next = next ≡ last
IsLast PastWidth evaluation last next = next ≡ last

pub record IsStep {E W : Type 0} (Evaluates : List Bool → Result E W → Type 0) (value : E → ℚ) (threshold : ℚ) (s : ℕ) (kept wide : List Bool) (last : E)
    (then_kept then_wide : List Bool) (next : E) : Type 0 where
  pub evaluation : Result E W
  pub evaluated : Evaluates (slice_set kept s false) evaluation
  pub kept_is : then_kept ≡ slice_set kept s (stays (trial_of value threshold evaluation))
  pub wide_is : then_wide ≡ slice_set wide s (is_wide (trial_of value threshold evaluation))
  pub last_is : IsLast (trial_of value threshold evaluation) evaluation last next
