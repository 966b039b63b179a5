use Rattle.std.proofs.Common.{◌≡◌, ◌+◌, map}
use Rattle.std.specs.List.{range_with_len}
use Rattle.mdp_horizon.specs.{Columns.{cover, follow}, Curve.{point_of}, Code.{plain_objective}, BoundsCode.{values_of}}
use Rattle.mdp_horizon.proofs.columns.Query.curve.Given as goal

abbrev pub invariant-loop-done : goal.invariant-loop-done
invariant-loop-done l =
    let one = l.fn.self.one in
    let m = l.fn.self.model.now in
    let o = plain_objective l.fn.self.objective in
    record {
      covers : values_of l.cover ≡ cover l.fn.self.dir one m o l.done;
      follows : values_of l.follow ≡ follow l.fn.self.dir one m o l.done;
      points : l.curve.items ≡ map (point_of l.fn.self.dir one m o l.s) (range_with_len 0 (l.done + 1));
    }
