use Rattle.std.proofs.Common.{drop, codes}
use Rattle.mdp_drn.specs.{Writing.{joined}, Pieces.{separated, zeros_of}}
use Rattle.mdp_drn.proofs.TextWritten.Appending.{Appending}
use Rattle.mdp_drn.proofs.state_text.push_zeros.Given as goal

abbrev pub invariant-loop-m : goal.invariant-loop-m
invariant-loop-m l = Appending l.fn.out.items l.out.items (separated (codes ", ") l.m (drop l.m (zeros_of l.model))) (joined (codes ", ") (zeros_of l.model))
