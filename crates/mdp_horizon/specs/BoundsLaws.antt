-- What rounded sums say of exact ones.
use Rattle.std.specs.Prelude.{◌≡◌, ℕ, ◌<◌, ◌^◌, Bool, List, Option, Some, ℤ, pos}
use Rattle.mdp_spec.specs.{Mdp.{Mdp, states_of}, Row.{IsMdp}}
use Rattle.mdp_rows.specs.declared.dir.Dir.{Dir}
use Rattle.mdp_horizon.specs.{Objective.{Objective}, Objective.Objective.{until}, Exact.{SumLiesBeyond, HasRoom, SumIsWithin}, Gap.{NoneIsWide, RowsHaveRoom, MeetWithin}, Scaled.{Scaled, rounded_sum}}

-- a rounded sum lies on its side of the exact sum
abbrev pub SumsLieBeyond : Type 0
SumsLieBeyond = (side : Dir) (column : List (Option ℤ)) (x : Scaled) (k : ℤ) → rounded_sum side column x ≡ Some k → SumLiesBeyond side column x k

-- and where the row has room less than one unit from it
abbrev pub SumsAreWithin : Type 0
SumsAreWithin = (side : Dir) (column : List (Option ℤ)) (x : Scaled) (k : ℤ) → HasRoom column x → rounded_sum side column x ≡ Some k → SumIsWithin column x k

-- where no row is wide, the two columns come at most one unit a step apart
abbrev pub ColumnsAreNear : Type 0
ColumnsAreNear = (dir : Dir) (one : ℕ) (m : Mdp) (o : Objective) (n s : ℕ) → 0 < one → IsMdp m → NoneIsWide dir (pos one) m o n → s < states_of m → MeetWithin dir (pos one) m o n n s

-- where the rows have room, none is wide for a bounded until, whatever the columns are
abbrev pub RoomIsEnough : Type 0
RoomIsEnough =
    (dir : Dir) (one : ℕ) (m : Mdp) (stay goals : List Bool) (n : ℕ) → one < 2 ^ 127 → IsMdp m → RowsHaveRoom one m (until stay goals) → NoneIsWide dir (pos one) m (until stay goals) n
