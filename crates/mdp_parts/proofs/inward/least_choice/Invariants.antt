use Rattle.std.proofs.Common.{◌≡◌, ◌<◌, ℕ, false}
use Rattle.mdp_parts.specs.Inner.{may_fall_inside}
use Rattle.mdp_parts.proofs.inward.least_choice.Given as goal

abbrev pub invariant-loop-c : goal.invariant-loop-c
invariant-loop-c l = (k : ℕ) → k < l.c → may_fall_inside l.model l.ends.parts l.ranks l.s k ≡ false
