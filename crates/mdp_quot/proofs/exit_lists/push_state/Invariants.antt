use Rattle.std.proofs.Common.{◌≡◌, ◌++◌, List, length}
use Rattle.mdp_rows.specs.{declared.preds.Pred.{Pred}, Preds.{first_choices}}
use Rattle.mdp_quot.specs.ExitLists.{AreExits}
use Rattle.mdp_quot.proofs.exit_lists.push_state.Given as goal

abbrev pub invariant-loop-c : goal.invariant-loop-c
invariant-loop-c l =
    (length l.lists.items ≡ length l.initial.lists.items)
    × ((choices : List Pred) → AreExits l.model l.ends.parts l.nodes (length l.initial.lists.items) choices l.initial.lists.items
    → AreExits l.model l.ends.parts l.nodes (length l.initial.lists.items) (choices ++ first_choices l.s l.c) l.lists.items)
