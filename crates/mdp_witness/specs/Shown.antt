-- What a subsystem that was found shows: its certificate holds, it reaches the threshold, and each of its states that isn't marked as wide is needed.
use Rattle.std.specs.Prelude.{◌≡◌, ℕ, ◌<◌, Bool, true, false, List, length, slice_index, slice_index_or, Result, Ok}
use Rattle.mdp_math.specs.Rational.{ℚ, ◌<ℚ◌}
use Rattle.mdp_spec.specs.{Mdp.{Mdp, states_of, value_at}, Bounds.{ReachMax, ReachMin}, Sub.{sub_of, policy_on}, Tree.{IsPolicy}}
use Rattle.mdp_rows.specs.{declared.dir.Dir.{Dir}, declared.dir.Dir.TheVariants.{Max, Min}}
use Rattle.mdp_wide.specs.Term.{WideTerm}
use Rattle.mdp_subsystem_rules.specs.{Flow.{flow_total}, FlowChecks.{HoldsFlow}, FloorChecks.{HoldsFloor}, Kept.{kept_marks}, Policy.{PolicyWithin, FallsShort}}
use Rattle.mdp_subsystem_rules.specs.Shape.{IsFlowShape, IsFloorShape}
use Rattle.mdp_reach.specs.Query.{Answer, EndsSo}
use Rattle.mdp_witness.specs.{First.{IsFirst}, Evaluation.{visited, visited_value}, LeastEvaluation.{Evaluates, value_from}}
use Rattle.mdp_witness.specs.{Trial.{trial_set, without, trial_of, is_wide}, Query.{PlainSubsystem, flow, floor}}

-- the kept states; for each whether it is marked as wide; and whether each state of the model is kept
abbrev pub kept_of : PlainSubsystem → List ℕ
kept_of (flow kept wide flows) = kept
kept_of (floor kept wide values ranks) = kept

abbrev pub wide_of : PlainSubsystem → List Bool
wide_of (flow kept wide flows) = wide
wide_of (floor kept wide values ranks) = wide

abbrev pub kept_in : Mdp → PlainSubsystem → List Bool
kept_in m found = kept_marks (states_of m) (kept_of found)

-- ---- its certificate

-- it has the shape of a certificate of this direction
abbrev pub HasShape : Dir → Mdp → PlainSubsystem → Type 0
HasShape Max m (flow kept wide flows) = IsFlowShape m kept wide flows
HasShape Max m (floor kept wide values ranks) = ⊥
HasShape Min m (flow kept wide flows) = ⊥
HasShape Min m (floor kept wide values ranks) = IsFloorShape m kept wide values ranks

-- it meets the rules of this direction, and no term of its check is past width
abbrev pub Holds : Dir → Mdp → List Bool → ℕ → ℚ → PlainSubsystem → Type 0
Holds Max m goals start threshold (flow kept wide flows) = HoldsFlow m goals start threshold kept flows
Holds Max m goals start threshold (floor kept wide values ranks) = ⊥
Holds Min m goals start threshold (flow kept wide flows) = ⊥
Holds Min m goals start threshold (floor kept wide values ranks) = HoldsFloor m goals start threshold kept values ranks

-- ---- its policy

-- the policy of the greatest probability, read on the subsystem, comes close to the threshold
abbrev pub PolicyReaches : Mdp → List Bool → ℕ → ℚ → PlainSubsystem → Type 0
PolicyReaches m goals start threshold (flow kept wide flows) =
    (a : Answer) → EndsSo Max m goals (Ok a)
    → PolicyWithin m goals (kept_marks (states_of m) kept) start threshold (flow_total flows) (policy_on goals (kept_marks (states_of m) kept) a.choices)
PolicyReaches m goals start threshold (floor kept wide values ranks) = ⊥

-- ---- its states

-- on the kept states without state s that policy falls short of the threshold
abbrev pub IsNeededMax : Mdp → List Bool → ℕ → ℚ → List Bool → ℕ → Type 0
IsNeededMax m goals start threshold kept s =
    (a : Answer) → EndsSo Max m goals (Ok a) → FallsShort m goals (without kept s) start threshold (policy_on goals (without kept s) a.choices)

-- some policy of the subsystem without it does
pub record IsNeededMin (m : Mdp) (goals : List Bool) (start : ℕ) (threshold : ℚ) (kept : List Bool) (s : ℕ) : Type 0 where
  pub policy : List ℕ
  pub is_policy : IsPolicy (sub_of m goals (without kept s)) policy
  pub short : FallsShort m goals (without kept s) start threshold policy

-- each kept state that isn't marked as wide is so
abbrev pub AreNeeded : (List Bool → ℕ → Type 0) → Mdp → PlainSubsystem → Type 0
AreNeeded IsNeeded m found =
    (i : ℕ) → i < length (kept_of found) → slice_index_or (wide_of found) i true ≡ false → IsNeeded (kept_in m found) (slice_index (kept_of found) i)

-- a kept state is marked as wide exactly where a term of its trial is past width: where the evaluation of the first set's lesser states and of the
-- greater ones that are left ends so, or the comparison of its value with the threshold
abbrev pub MarksAreExactMax : Mdp → List Bool → ℕ → ℚ → PlainSubsystem → Type 0
MarksAreExactMax m goals start threshold found =
    (a : Answer) (first : List Bool) (i : ℕ) → EndsSo Max m goals (Ok a) → IsFirst Max m goals a.values a.choices start first → i < length (kept_of found)
    → slice_index_or (wide_of found) i false
    ≡ is_wide (trial_of visited_value threshold (visited m goals a.choices start (trial_set first (kept_in m found) (slice_index (kept_of found) i))))

abbrev pub MarksAreExactMin : Mdp → List Bool → ℕ → ℚ → PlainSubsystem → Type 0
MarksAreExactMin m goals start threshold found =
    (a : Answer) (first : List Bool) (i : ℕ) (r : Result Answer WideTerm) → EndsSo Min m goals (Ok a) → IsFirst Min m goals a.values a.choices start first → i < length (kept_of found)
    → Evaluates m goals (trial_set first (kept_in m found) (slice_index (kept_of found) i)) r
    → slice_index_or (wide_of found) i false ≡ is_wide (trial_of (value_from start) threshold r)

-- ---- where there is none

-- the values are the greatest, or the least, probabilities of reaching a goal
abbrev pub IsBest : Dir → Mdp → List Bool → List ℚ → List ℕ → Type 0
IsBest Max = ReachMax
IsBest Min = ReachMin

-- v is the best probability from the start, and it is below the threshold
pub record IsBestBelow (dir : Dir) (m : Mdp) (goals : List Bool) (start : ℕ) (threshold v : ℚ) : Type 0 where
  pub values : List ℚ
  pub policy : List ℕ
  pub best : IsBest dir m goals values policy
  pub value : v ≡ value_at values start
  pub less : v <ℚ threshold
