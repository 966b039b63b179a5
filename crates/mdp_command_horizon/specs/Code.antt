-- The program's errors as refusals.
use Rattle.mdp_horizon.specs.Errors.{HorizonError}
use Rattle.mdp_wide.specs.declared.unfinished.Unfinished.TheVariants as error
use Rattle.mdp_job.specs.Refusal.{PlainRefusal, horizon_wide, no_memory}

-- why there is no answer, as a refusal
abbrev pub refused : HorizonError → PlainRefusal
refused (error.TooWide place) = horizon_wide place.depth place.state place.choice
refused error.Memory = no_memory
