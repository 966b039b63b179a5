-- The error of a bounded query, as contracts see it.
use Rattle.mdp_wide.specs.declared.unfinished.Unfinished.{Unfinished}
use Rattle.mdp_horizon.specs.declared.error.HorizonPlace.{HorizonPlace}

-- why there are no values
abbrev pub HorizonError : Type 0
HorizonError = Unfinished HorizonPlace
