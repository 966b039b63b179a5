use Rattle.std.proofs.Common.{◌≡◌, min, take}
use Rattle.mdp_num.specs.Digits.{number_after}
use Rattle.mdp_num.proofs.digits.long_after.Given as goal

abbrev pub invariant-loop-digit : goal.invariant-loop-digit
invariant-loop-digit l = l.number ≡ min (number_after l.fn.n (take l.digit-index l.digits)) l.fn.cap
