use Rattle.std.proofs.Common.{drop, map, codes, slice_index_or}
use Rattle.mdp_num.specs.Value.{spelling}
use Rattle.mdp_spec.specs.Mdp.{choices_at, no_choice}
use Rattle.mdp_drn.specs.{Writing.{joined}, Pieces.{separated}}
use Rattle.mdp_drn.proofs.TextWritten.Appending.{Appending}
use Rattle.mdp_drn.proofs.choice_text.push_rewards.Given as goal

abbrev pub invariant-loop-m : goal.invariant-loop-m
invariant-loop-m l = Appending l.fn.out.items l.out.items (separated (codes ", ") l.m (drop l.m (map spelling (slice_index_or (choices_at l.model l.s) l.c no_choice).rewards)))
    (joined (codes ", ") (map spelling (slice_index_or (choices_at l.model l.s) l.c no_choice).rewards))
