use Rattle.std.proofs.Common.{◌≡◌, ◌+◌, ◌-◌, ◌≤◌, length, take, not}
use Rattle.std.specs.List.{suffix_len}
use Rattle.mdp_drn.specs.Body.{is_open_bracket}
use Rattle.mdp_drn.proofs.brackets.behind_open.Given as goal

abbrev pub invariant-loop-start : goal.invariant-loop-start
invariant-loop-start l = record {
  within : l.start ≤ length l.bytes;
  counted : suffix_len (λ c. not (is_open_bracket c)) l.bytes ≡ (length l.bytes - l.start) + suffix_len (λ c. not (is_open_bracket c)) (take l.start l.bytes);
}

abbrev pub decreases-loop-start : goal.decreases-loop-start
decreases-loop-start l = l.start
