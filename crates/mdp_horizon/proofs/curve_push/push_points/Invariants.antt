use Rattle.std.proofs.Common.{◌≡◌, ◌++◌, ◌-◌, ◌<◌, ◌≤◌, drop, get_or, length}
use Rattle.mdp_text.specs.Answer.{Keeps}
use Rattle.mdp_horizon.specs.{Curve.{no_point}, CurveSpelling.{lines_from, point_lines}}
use Rattle.mdp_horizon.proofs.curve_push.push_points.Given as goal

abbrev pub invariant-loop-k : goal.invariant-loop-k
invariant-loop-k l = record {
  before : l.first < l.k;
  inside : l.k ≤ length l.curve;
  rest : l.out.items ++ lines_from l.first (l.k - 1 - l.first) (get_or l.curve l.first no_point) (drop l.k l.curve) ≡ l.initial.out.items ++ point_lines l.curve;
  front : Keeps l.initial.out.items l.out.items;
}
