-- What the code answers.
use Rattle.mdp_math.specs.Rational.{ℚ}
use Rattle.mdp_witness.specs.declared.subsystem.WitnessError.{WitnessError}
use Rattle.mdp_witness.specs.declared.subsystem.WitnessError.TheVariants as refused
use Rattle.mdp_subsystem_search.specs.declared.subsystem.Unshown.{Unshown}
use Rattle.mdp_subsystem_search.specs.declared.subsystem.Unshown.TheVariants as unshown

-- P of the upper value that is below the threshold
abbrev pub IfBelow : Unshown → (ℚ → Type 0) → Type 0
IfBelow (unshown.Below v) P = P v
IfBelow (unshown.Undecided low high) P = Unit {0}
IfBelow unshown.Memory P = Unit {0}

-- P of the lower and the upper value between which the threshold lies
abbrev pub IfUndecided : Unshown → (ℚ → ℚ → Type 0) → Type 0
IfUndecided (unshown.Below v) P = Unit {0}
IfUndecided (unshown.Undecided low high) P = P low high
IfUndecided unshown.Memory P = Unit {0}

-- an error of the exact query, where the threshold lies between a lower and an upper value
abbrev pub unshown_of : WitnessError → ℚ → ℚ → Unshown
unshown_of (refused.Below v) low high = unshown.Below v
unshown_of (refused.TooWide w) low high = unshown.Undecided low high
unshown_of refused.Memory low high = unshown.Memory
