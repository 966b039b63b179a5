-- An objective as the code holds it.
use Rattle.std.specs.Prelude.{◌≡◌, ◌<◌, length}
use Rattle.std.proofs.Props.{props}
use Rattle.mdp_spec.specs.Mdp.{Mdp, states_of}
use Rattle.mdp_horizon.specs.{Objective.{Objective}, Objective.Objective.{until, total}, declared.objective.Objective.{Objective as Asked}}
use Rattle.mdp_horizon.specs.declared.objective.Objective.TheVariants as asked

abbrev pub plain_objective : Asked → Objective
plain_objective (asked.Until stay goals) = until stay.now goals.now
plain_objective (asked.Total name) = total name

-- a mark for each state; or a reward name that the model has
abbrev pub IsObjectiveOf : Mdp → Objective → Type 0
IsObjectiveOf m (until stay goals) = (length stay ≡ states_of m) × (length goals ≡ states_of m)
IsObjectiveOf m (total r) = r < length m.names

-- it is one in one way
pub IsObjectiveOf-prop : (m : Mdp) (o : Objective) → IsProp (IsObjectiveOf m o)
IsObjectiveOf-prop m (until stay goals) = hlevel props
IsObjectiveOf-prop m (total r) = hlevel props
