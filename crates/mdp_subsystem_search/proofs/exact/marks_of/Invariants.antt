use Rattle.std.proofs.Common.{◌≡◌, take}
use Rattle.mdp_subsystem_rules.specs.Kept.{kept_marks}
use Rattle.mdp_subsystem_search.proofs.exact.marks_of.Given as goal

-- the states that were passed are marked
abbrev pub invariant-loop-s : goal.invariant-loop-s
invariant-loop-s l = l.marks ≡ kept_marks l.states (take l.s-index l.kept)
