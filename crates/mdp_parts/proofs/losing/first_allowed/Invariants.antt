use Rattle.std.proofs.Common.{◌≡◌, ℕ, ◌<◌, ◌≤◌, false}
use Rattle.mdp_parts.specs.Allowed.{allowed_at}
use Rattle.mdp_parts.proofs.losing.first_allowed.Given as goal

abbrev pub invariant-loop-c : goal.invariant-loop-c
invariant-loop-c l = (d : ℕ) → d < l.c → l.from ≤ d → allowed_at l.allowed l.s d ≡ false
