use Rattle.std.proofs.Common.{[], replicate}
use Rattle.mdp_spec.specs.Mdp.{states_of}
use Rattle.mdp_rows.specs.Preds.{choices_below}
use Rattle.mdp_rows.proofs.Queries.Preds.{IsLed}
use Rattle.mdp_rows.proofs.preds.preds_of.Given as goal

abbrev pub invariant-loop-s : goal.invariant-loop-s
invariant-loop-s l = IsLed l.model (replicate (states_of l.model) []) l.lists.items (choices_below l.model l.s)
