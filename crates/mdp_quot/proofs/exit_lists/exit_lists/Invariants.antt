use Rattle.mdp_rows.specs.Preds.{choices_below}
use Rattle.mdp_quot.specs.ExitLists.{AreExits}
use Rattle.mdp_quot.proofs.exit_lists.exit_lists.Given as goal

abbrev pub invariant-loop-s : goal.invariant-loop-s
invariant-loop-s l = AreExits l.model l.ends.parts l.nodes l.count (choices_below l.model l.s) l.lists.items
