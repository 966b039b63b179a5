-- The errors of rounds and of paths, as contracts see them.
use Rattle.mdp_wide.specs.declared.unfinished.Unfinished.{Unfinished}
use Rattle.mdp_policy_iteration.specs.{declared.solution.WideAt.{WideAt}, Places.{Place}}

-- why a computation over nodes isn't finished
abbrev pub RoundError : Type 0
RoundError = Unfinished Place

-- why a path has no best policy
abbrev pub PathError : Type 0
PathError = Unfinished WideAt
