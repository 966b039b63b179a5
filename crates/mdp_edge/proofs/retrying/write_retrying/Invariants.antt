-- What a call that was interrupted leaves.
use Rattle.std.specs.Io.KnownBytes.{Keeps}
use Rattle.mdp_edge.proofs.retrying.write_retrying.Given as goal

abbrev pub invariant-loop : goal.invariant-loop
invariant-loop g l = Keeps (g.W.Write.contents l.initial.inner) (g.W.Write.contents l.inner)
