use Rattle.std.proofs.Common.{◌≡◌, drop, map}
use Rattle.mdp_farkas.specs.Verdict.{objection_to}
use Rattle.mdp_subsystem_rules.proofs.walk.each_kept.Given as goal

-- the states that are left end the walk as all states do
abbrev pub invariant-loop-s : goal.invariant-loop-s
invariant-loop-s g l = objection_to (map (g.C.OneCheck.check l.check) l.kept) ≡ objection_to (map (g.C.OneCheck.check l.check) (drop l.s-index l.kept))
