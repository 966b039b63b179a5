-- What is shown of the text of a witness.
use Rattle.std.specs.Prelude.{◌≡◌, ◌≤◌, ℕ, Bool, List, length, Option, Some, None, Ok}
use Rattle.mdp_math.specs.Rational.{ℚ}
use Rattle.mdp_spec.specs.{Bounds.{SubMax, SubMin}, Labels.{marks_of, initial_of}, Mdp.{Mdp}}
use Rattle.mdp_rows.specs.{declared.dir.Dir.{Dir}, declared.dir.Dir.TheVariants.{Max, Min}}
use Rattle.mdp_cert.specs.{Reading.{outcome}, Spelling.{text_of}}
use Rattle.mdp_subsystem_rules.specs.Until.{SubUntilMax, SubUntilMin}
use Rattle.mdp_check.specs.Check.{stay_marks, way_by, IsAccepted, IsBound}
use Rattle.mdp_command.specs.Files.{most_bytes}
use Rattle.mdp_witness.specs.Query.{PlainSubsystem, EndsSo}
use Rattle.mdp_witness.specs.Shown.{kept_in, Holds, PolicyReaches, IsNeededMax, IsNeededMin, AreNeeded, MarksAreExactMax, MarksAreExactMin}
use Rattle.mdp_command_solve.specs.{Ways.{place_on_way}, WitnessCertificate.{certificate_of}}

-- on the kept states some policy, or each, reaches a goal with the threshold at least, by way of states with the label `stay` alone where there is one
abbrev pub Reaches : Dir → Option (List ℕ) → Mdp → List Bool → List Bool → ℕ → ℚ → Type 0
Reaches Max None m = SubMax m
Reaches Min None m = SubMin m
Reaches Max (Some stay) m = SubUntilMax m (stay_marks m stay)
Reaches Min (Some stay) m = SubUntilMin m (stay_marks m stay)

-- the policy of the greatest probability does
abbrev pub PolicyComes : Dir → Mdp → List Bool → ℕ → ℚ → PlainSubsystem → Type 0
PolicyComes Max m goals start threshold found = PolicyReaches m goals start threshold found
PolicyComes Min m goals start threshold found = Unit {0}

-- without state s that policy falls short of it, or some policy of what is left does
abbrev pub IsNeeded : Dir → Mdp → List Bool → ℕ → ℚ → List Bool → ℕ → Type 0
IsNeeded Max = IsNeededMax
IsNeeded Min = IsNeededMin

-- a kept state is marked as wide exactly where a term of its trial is past width
abbrev pub MarksAreExact : Dir → Mdp → List Bool → ℕ → ℚ → PlainSubsystem → Type 0
MarksAreExact Max = MarksAreExactMax
MarksAreExact Min = MarksAreExactMin

-- what holds of a subsystem for these goals and this start, on the model or on what is left of it for the way: the query ends with it; its rules, so
-- it reaches the threshold; its policy does; no kept state that isn't marked as wide can go; and which states are so marked
pub record IsWitness (dir : Dir) (stay : Option (List ℕ)) (threshold : ℚ) (m : Mdp) (goals : List Bool) (start : ℕ) (found : PlainSubsystem) : Type 0 where
  pub ends : EndsSo dir (way_by m goals stay) goals start threshold (Ok found)
  pub rules : Holds dir (way_by m goals stay) goals start threshold found
  pub reaches : Reaches dir stay m goals (kept_in m found) start threshold
  pub policy : PolicyComes dir (way_by m goals stay) goals start threshold found
  pub needed : AreNeeded (IsNeeded dir (way_by m goals stay) goals start threshold) (way_by m goals stay) found
  pub marks : MarksAreExact dir (way_by m goals stay) goals start threshold found

-- the text spells such a subsystem, for the states with the label and the one initial state
pub record IsWitnessOf (dir : Dir) (stay : Option (List ℕ)) (label : List ℕ) (threshold : ℚ) (m : Mdp) (text : List ℕ) : Type 0 where
  pub place : ℕ
  pub named : place_on_way m stay label ≡ Some place
  pub start : ℕ
  pub initial : initial_of m ≡ Some start
  pub found : PlainSubsystem
  pub spelled : text ≡ text_of (certificate_of dir stay label threshold start m found)
  pub witness : IsWitness dir stay threshold m (marks_of m place) start found

-- and it reads as that certificate, which is accepted for the model; so its claim is true
pub record IsWitnessPrinted (dir : Dir) (stay : Option (List ℕ)) (label : List ℕ) (threshold : ℚ) (m : Mdp) (text : List ℕ) : Type 0 where
  pub spells : IsWitnessOf dir stay label threshold m text
  pub short : length text ≤ most_bytes
  pub reads : outcome text ≡ Ok (certificate_of dir stay label threshold spells.start m spells.found)
  pub holds : IsAccepted m (certificate_of dir stay label threshold spells.start m spells.found)
  pub bound : IsBound m (certificate_of dir stay label threshold spells.start m spells.found)
