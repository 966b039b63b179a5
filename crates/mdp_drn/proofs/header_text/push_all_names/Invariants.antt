use Rattle.std.proofs.Common.{[], ◌∷◌, drop}
use Rattle.mdp_drn.specs.{Writing.{joined}, Pieces.{separated}}
use Rattle.mdp_drn.proofs.TextWritten.Appending.{Appending}
use Rattle.mdp_drn.proofs.header_text.push_all_names.Given as goal

abbrev pub invariant-loop-m : goal.invariant-loop-m
invariant-loop-m l = Appending l.fn.out.items l.out.items (separated (32 ∷ []) l.m (drop l.m l.model.names)) (joined (32 ∷ []) l.model.names)
