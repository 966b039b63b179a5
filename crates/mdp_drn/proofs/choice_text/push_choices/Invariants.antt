use Rattle.std.proofs.Common.{drop}
use Rattle.mdp_spec.specs.Mdp.{choices_at}
use Rattle.mdp_drn.specs.Writing.{choices_text}
use Rattle.mdp_drn.proofs.TextWritten.Appending.{Appending}
use Rattle.mdp_drn.proofs.choice_text.push_choices.Given as goal

abbrev pub invariant-loop-c : goal.invariant-loop-c
invariant-loop-c l = Appending l.fn.out.items l.out.items (choices_text l.c (drop l.c (choices_at l.model l.s))) (choices_text 0 (choices_at l.model l.s))
