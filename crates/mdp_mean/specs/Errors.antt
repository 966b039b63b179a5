-- The error of the join, as contracts see it.
use Rattle.mdp_wide.specs.declared.unfinished.Unfinished.{Unfinished}
use Rattle.mdp_mean.specs.declared.errors.JoinPlace.{JoinPlace}

-- why values aren't joined
abbrev pub JoinError : Type 0
JoinError = Unfinished JoinPlace
