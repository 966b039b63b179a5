-- Trials: the states of the first set are tried from the greatest to the least. In its trial a state is taken out of the set that is left, and
-- that set is evaluated. Where its value is at least the threshold, the state goes; else it is needed and stays. It stays too where a term is past
-- width, and is marked as wide.
use Rattle.std.specs.Prelude.{◌≡◌, ℕ, ◌<◌, Bool, true, false, ◌&&◌, nat_lt, List, length, map, slice_set, Option, Some, None, Result, Ok, Err, if◌then◌else◌}
use Rattle.std.specs.{List.{range_with_len}, declared.cmp.Ordering.{Ordering}, declared.cmp.Ordering.TheVariants.{Less, Equal, Greater}}
use Rattle.mdp_math.specs.{Rational.{ℚ}, Written.{written_compare}}
use Rattle.mdp_spec.specs.Tree.{is_marked}
use Rattle.mdp_witness.specs.{declared.trial.Trial.{Trial}, declared.trial.Trial.TheVariants.{Goes, Needed, PastWidth}}

-- the set in which state x is tried: the greater states that are left, and the lesser ones of the first set
abbrev pub in_trial : List Bool → List Bool → ℕ → ℕ → Bool
in_trial first kept x s = if nat_lt s x then is_marked first s else nat_lt x s && is_marked kept s

abbrev pub trial_set : List Bool → List Bool → ℕ → List Bool
trial_set first kept x = map (in_trial first kept x) (range_with_len 0 (length first))

-- a set without state x
abbrev pub without : List Bool → ℕ → List Bool
without set x = slice_set set x false

-- what a trial says of its state, by the comparison of the value with the threshold
abbrev pub trial_by : Option Ordering → Trial
trial_by None = PastWidth
trial_by (Some Less) = Needed
trial_by (Some Equal) = Goes
trial_by (Some Greater) = Goes

-- by the evaluation of the set without the state
abbrev pub trial_of : {E W : Type 0} → (E → ℚ) → ℚ → Result E W → Trial
trial_of value threshold (Ok e) = trial_by (written_compare (value e) threshold)
trial_of value threshold (Err w) = PastWidth

-- whether the state stays, and whether it is marked as wide
abbrev pub stays : Trial → Bool
stays Goes = false
stays Needed = true
stays PastWidth = true

abbrev pub is_wide : Trial → Bool
is_wide Goes = false
is_wide Needed = false
is_wide PastWidth = true

-- state x of the first set is tried
pub record IsTried {E W : Type 0} (Evaluates : List Bool → Result E W → Type 0) (value : E → ℚ) (threshold : ℚ) (first kept wide : List Bool) (x : ℕ) : Type 0 where
  pub evaluation : Result E W
  pub evaluated : Evaluates (trial_set first kept x) evaluation
  pub keeps : is_marked kept x ≡ stays (trial_of value threshold evaluation)
  pub marks : is_marked wide x ≡ is_wide (trial_of value threshold evaluation)

-- the set that is left, the states of it that are marked as wide, and its evaluation
pub record AreLeft {E W : Type 0} (Evaluates : List Bool → Result E W → Type 0) (value : E → ℚ) (threshold : ℚ) (first kept wide : List Bool) (last : E) : Type 0 where
  pub one_kept_each : length kept ≡ length first
  pub one_wide_each : length wide ≡ length first
  pub outside : (x : ℕ) → x < length first → is_marked first x ≡ false → (is_marked kept x ≡ false) × (is_marked wide x ≡ false)
  pub tried : (x : ℕ) → x < length first → is_marked first x ≡ true → IsTried Evaluates value threshold first kept wide x
  pub evaluated : Evaluates kept (Ok last)
