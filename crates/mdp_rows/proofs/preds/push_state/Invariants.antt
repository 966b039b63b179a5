use Rattle.mdp_rows.specs.Preds.{first_choices}
use Rattle.mdp_rows.proofs.Queries.Preds.{IsLed}
use Rattle.mdp_rows.proofs.preds.push_state.Given as goal

abbrev pub invariant-loop-c : goal.invariant-loop-c
invariant-loop-c l = IsLed l.model l.initial.lists.items l.lists.items (first_choices l.s l.c)
