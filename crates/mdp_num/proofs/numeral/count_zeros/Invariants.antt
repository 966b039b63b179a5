use Rattle.std.proofs.Common.{◌≡◌, ◌+◌, ◌-◌, ◌≤◌, length, take}
use Rattle.mdp_num.specs.Numeral.{zeros_behind}
use Rattle.mdp_num.proofs.numeral.count_zeros.Given as goal

abbrev pub invariant-loop-end : goal.invariant-loop-end
invariant-loop-end l = record {
  within : l.end ≤ length l.digits;
  counted : zeros_behind l.digits ≡ (length l.digits - l.end) + zeros_behind (take l.end l.digits);
}

abbrev pub decreases-loop-end : goal.decreases-loop-end
decreases-loop-end l = l.end
