-- What a certificate that was found shows, in either direction.
use Rattle.std.proofs.Common.{◌≡◌, ℕ, ◌<◌, Bool, List, length, Ok}
use Rattle.mdp_math.specs.Rational.{ℚ}
use Rattle.mdp_spec.specs.{Mdp.{Mdp, states_of}, Row.{IsMdp}}
use Rattle.mdp_rows.specs.{declared.dir.Dir.{Dir}, declared.dir.Dir.TheVariants.{Max, Min}}
use Rattle.mdp_subsystem_rules.specs.Laws.{ListedFlowShape, ListedFloorShape}
use Rattle.mdp_witness.specs.{Query.{PlainSubsystem, EndsSo}, Shown.{HasShape, Holds}}
use Rattle.mdp_witness.proofs.Showing.{shape-max, holds-max, shape-min, holds-min}

pub shape-found : (dir : Dir) (m : Mdp) (goals : List Bool) (start : ℕ) (threshold : ℚ) (found : PlainSubsystem) → IsMdp m → length goals ≡ states_of m → start < states_of m
    → EndsSo dir m goals start threshold (Ok found) → ListedFlowShape → ListedFloorShape → HasShape dir m found
shape-found Max m goals start threshold found known_ each inside end flows floors = shape-max m goals start threshold found known_ inside end flows
shape-found Min m goals start threshold found known_ each inside end flows floors = shape-min m goals start threshold found known_ each inside end floors

pub holds-found : (dir : Dir) (m : Mdp) (goals : List Bool) (start : ℕ) (threshold : ℚ) (found : PlainSubsystem) → IsMdp m → length goals ≡ states_of m → start < states_of m
    → EndsSo dir m goals start threshold (Ok found) → ListedFlowShape → ListedFloorShape → Holds dir m goals start threshold found
holds-found Max m goals start threshold found known_ each inside end flows floors = holds-max m goals start threshold found known_ inside end flows
holds-found Min m goals start threshold found known_ each inside end flows floors = holds-min m goals start threshold found known_ each inside end floors
