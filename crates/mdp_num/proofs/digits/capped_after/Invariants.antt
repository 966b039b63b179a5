use Rattle.std.proofs.Common.{◌≡◌, take}
use Rattle.mdp_num.specs.Digits.{number_after}
use Rattle.mdp_num.proofs.digits.capped_after.Given as goal

abbrev pub invariant-loop-i : goal.invariant-loop-i
invariant-loop-i l = l.number ≡ number_after l.fn.n (take l.i l.digits)
