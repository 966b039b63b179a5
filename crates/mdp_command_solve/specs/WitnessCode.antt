-- What the code says where there is no subsystem.
use Rattle.mdp_wide.specs.Term.{shown}
use Rattle.mdp_job.specs.Refusal.{PlainRefusal, below, too_wide, no_memory}
use Rattle.mdp_witness.specs.declared.subsystem.WitnessError.{WitnessError}
use Rattle.mdp_witness.specs.declared.subsystem.WitnessError.TheVariants as refused

abbrev pub refusal_of : WitnessError → PlainRefusal
refusal_of (refused.Below v) = below v
refusal_of (refused.TooWide w) = too_wide (shown w w.round)
refusal_of refused.Memory = no_memory
