use Rattle.std.proofs.Common.{◌≡◌}
use Rattle.std.specs.{Prelude.{Ok}, List.{flat_map, range_with_len}}
use Rattle.mdp_farkas.specs.Verdict.{objection_to}
use Rattle.mdp_farkas.proofs.walk.each_below.Given as goal

-- nothing stands against the checks below i
abbrev pub invariant-loop-i : goal.invariant-loop-i
invariant-loop-i g l = Ok tt ≡ objection_to (flat_map (g.C.Checks.checks l.checks) (range_with_len 0 l.i))
