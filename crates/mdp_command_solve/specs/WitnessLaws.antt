-- Laws of what is due to `witness`, over the definitions alone.
use Rattle.std.specs.Prelude.{◌≡◌, ℕ, List, Option, Some, Ok, Err}
use Rattle.mdp_math.specs.Rational.{ℚ, ◌<ℚ◌}
use Rattle.mdp_spec.specs.{Labels.{marks_of, initial_of}, Mdp.{Mdp, value_at}, Row.{IsMdp}}
use Rattle.mdp_rows.specs.{declared.dir.Dir.{Dir}, declared.rule.RowRule.{RowRule}}
use Rattle.mdp_job.specs.Refusal.{below}
use Rattle.mdp_command.specs.{Accepted.{IsTrueClaim}, Said.{Said}, Shown.{IsShownOf}}
use Rattle.mdp_command_solve.specs.{Ways.{place_on_way}, Laws.{IsBest}, WitnessDue.{IsWitnessDue}, WitnessShown.{IsWitnessOf, IsWitnessPrinted}}

-- what is due to the words and to the model is one thing
abbrev pub IsDueOnce : Type 0
IsDueOnce =
    (dir : Dir) (stay : Option (List ℕ)) (label : List ℕ) (threshold : ℚ) (m : Mdp) (said again : Said) → IsWitnessDue dir stay label threshold m said
    → IsWitnessDue dir stay label threshold m again → said ≡ again

-- where what `witness` prints is shown of a text and of the model's bytes, `check` accepts the text with them, and its claim is true
abbrev pub TextIsAccepted : Type 0
TextIsAccepted =
    (rule : RowRule) (dir : Dir) (stay : Option (List ℕ)) (label : List ℕ) (threshold : ℚ) (model text : List ℕ) → IsShownOf (IsWitnessPrinted dir stay label threshold) rule model text
    → IsTrueClaim rule model text

-- a text that is due spells a subsystem whose rules hold, which reaches the threshold, from which no kept state that isn't marked as wide can go, and
-- whose marks are exact
abbrev pub TextIsWitness : Type 0
TextIsWitness =
    (dir : Dir) (stay : Option (List ℕ)) (label : List ℕ) (threshold : ℚ) (m : Mdp) (text : List ℕ) → IsMdp m → IsWitnessDue dir stay label threshold m (Ok text)
    → IsWitnessOf dir stay label threshold m text

-- the best probability of reaching the label from the one initial state is v, which is below the threshold
pub record IsBelow (dir : Dir) (stay : Option (List ℕ)) (label : List ℕ) (threshold : ℚ) (m : Mdp) (v : ℚ) : Type 0 where
  pub place : ℕ
  pub named : place_on_way m stay label ≡ Some place
  pub start : ℕ
  pub initial : initial_of m ≡ Some start
  pub values : List ℚ
  pub policy : List ℕ
  pub best : IsBest dir stay m (marks_of m place) values policy
  pub value : v ≡ value_at values start
  pub less : v <ℚ threshold

-- where a value is due as one below the threshold, it is so
abbrev pub BelowIsBest : Type 0
BelowIsBest =
    (dir : Dir) (stay : Option (List ℕ)) (label : List ℕ) (threshold : ℚ) (m : Mdp) (v : ℚ) → IsMdp m → IsWitnessDue dir stay label threshold m (Err (below v))
    → IsBelow dir stay label threshold m v
