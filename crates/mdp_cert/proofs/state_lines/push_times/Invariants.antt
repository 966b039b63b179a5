use Rattle.std.proofs.{Common.{◌≡◌, ◌++◌}, Math.ListN.{replicate}}
use Rattle.mdp_cert.proofs.state_lines.push_times.Given as goal

abbrev pub invariant-loop : goal.invariant-loop
invariant-loop g l = l.entries.items ≡ l.initial.entries.items ++ replicate l.counter l.entry
