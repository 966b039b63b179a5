use Rattle.std.proofs.{Common.{refl, append_assoc}, lemmas.List.{replicate-append-replicate}}
use Rattle.mdp_cert.proofs.state_lines.push_times.Goals as goal

pub loop-preserved : goal.loop-preserved
loop-preserved g c = rw (c.in_ok-push.ensures.items, c.loop.invariant, append_assoc, replicate-append-replicate c.loop.counter 1 c.args.entry) refl
