use Rattle.std.proofs.Common.{◌≡◌}
use Rattle.std.specs.{Prelude.{Ok}, List.{flat_map, range_with_len}}
use Rattle.mdp_farkas.specs.Verdict.{objection_to}
use Rattle.mdp_subsystem_rules.specs.FloorClaim.{line_at}
use Rattle.mdp_subsystem_rules.proofs.floor.FloorClaim.each_line_at.Given as goal

-- nothing stands against the checks of the lines before i
abbrev pub invariant-loop-i : goal.invariant-loop-i
invariant-loop-i l = Ok tt ≡ objection_to (flat_map (line_at l.self) (range_with_len 0 l.i))
