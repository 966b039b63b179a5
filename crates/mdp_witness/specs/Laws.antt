-- What the end of the query of a witness implies.
use Rattle.std.specs.Prelude.{◌≡◌, ℕ, ◌<◌, Bool, List, length, Result, Ok, Err}
use Rattle.mdp_math.specs.Rational.{ℚ}
use Rattle.mdp_spec.specs.{Mdp.{Mdp, states_of}, Bounds.{SubMax, SubMin}, Row.{IsMdp}}
use Rattle.mdp_rows.specs.{declared.dir.Dir.{Dir}, declared.dir.Dir.TheVariants.{Max, Min}}
use Rattle.mdp_witness.specs.Query.{PlainSubsystem, Refusal, below, EndsSo}
use Rattle.mdp_witness.specs.Shown.{kept_in, HasShape, Holds, PolicyReaches, IsNeededMax, IsNeededMin, AreNeeded, MarksAreExactMax, MarksAreExactMin, IsBestBelow}

-- it has one end at most
abbrev pub HasOneEnd : Type 0
HasOneEnd =
    (dir : Dir) (m : Mdp) (goals : List Bool) (start : ℕ) (threshold : ℚ) (r q : Result PlainSubsystem Refusal)
    → EndsSo dir m goals start threshold r → EndsSo dir m goals start threshold q → q ≡ r

-- it has one for each model with a mark for each state, and each start
abbrev pub HasAnEnd : Type 0
HasAnEnd =
    (dir : Dir) (m : Mdp) (goals : List Bool) (start : ℕ) (threshold : ℚ) → IsMdp m → length goals ≡ states_of m → start < states_of m
    → (r : Result PlainSubsystem Refusal) × EndsSo dir m goals start threshold r

-- what holds of each subsystem that is found
abbrev pub EachFound : (Dir → Mdp → List Bool → ℕ → ℚ → PlainSubsystem → Type 0) → Type 0
EachFound P =
    (dir : Dir) (m : Mdp) (goals : List Bool) (start : ℕ) (threshold : ℚ) (found : PlainSubsystem)
    → IsMdp m → length goals ≡ states_of m → start < states_of m → EndsSo dir m goals start threshold (Ok found) → P dir m goals start threshold found

-- its certificate has its shape, and holds
abbrev pub FoundHaveShape : Type 0
FoundHaveShape = EachFound (λ dir m goals start threshold found. HasShape dir m found)

abbrev pub FoundHold : Type 0
FoundHold = EachFound Holds

-- so some policy of the subsystem reaches the threshold, or each does
abbrev pub FoundReachMax : Type 0
FoundReachMax = EachFound (λ dir m goals start threshold found. dir ≡ Max → SubMax m goals (kept_in m found) start threshold)

abbrev pub FoundReachMin : Type 0
FoundReachMin = EachFound (λ dir m goals start threshold found. dir ≡ Min → SubMin m goals (kept_in m found) start threshold)

-- the policy of the greatest probability does
abbrev pub PoliciesReach : Type 0
PoliciesReach = EachFound (λ dir m goals start threshold found. dir ≡ Max → PolicyReaches m goals start threshold found)

-- each of its states that isn't marked as wide is needed
abbrev pub FoundNeededMax : Type 0
FoundNeededMax = EachFound (λ dir m goals start threshold found. dir ≡ Max → AreNeeded (IsNeededMax m goals start threshold) m found)

abbrev pub FoundNeededMin : Type 0
FoundNeededMin = EachFound (λ dir m goals start threshold found. dir ≡ Min → AreNeeded (IsNeededMin m goals start threshold) m found)

-- those that are so marked are exactly those whose trial has a term past width
abbrev pub FoundMarkedMax : Type 0
FoundMarkedMax = EachFound (λ dir m goals start threshold found. dir ≡ Max → MarksAreExactMax m goals start threshold found)

abbrev pub FoundMarkedMin : Type 0
FoundMarkedMin = EachFound (λ dir m goals start threshold found. dir ≡ Min → MarksAreExactMin m goals start threshold found)

-- a value below the threshold is the best probability
abbrev pub BelowIsBest : Type 0
BelowIsBest =
    (dir : Dir) (m : Mdp) (goals : List Bool) (start : ℕ) (threshold v : ℚ)
    → IsMdp m → EndsSo dir m goals start threshold (Err (below v)) → IsBestBelow dir m goals start threshold v
