-- What is asked of a model, handed to a definition.
use Rattle.std.specs.Prelude.{ℕ, ℤ, List}
use Rattle.mdp_spec.specs.Mdp.{Mdp}
use Rattle.mdp_rows.specs.declared.dir.Dir.{Dir}
use Rattle.mdp_horizon.specs.{Objective.{Objective}, Code.{plain_objective}, Scaled.{Scaled}, Columns.{scaled_state}}
use Rattle.mdp_horizon.specs.{declared.backup.Query.{Query as ExactQuery}, declared.columns.Query.{Query}}

-- of exact values, and of values in units
abbrev pub for_exact : {A : Type 0} → ExactQuery → (Dir → Mdp → Objective → A) → A
for_exact q f = f q.dir q.model.now (plain_objective q.objective)

abbrev pub for_query : {A : Type 0} → Query → (Dir → ℤ → Mdp → Objective → A) → A
for_query q f = f q.dir q.one q.model.now (plain_objective q.objective)

-- the choices of state s in whole numbers
abbrev pub choices_of : Query → ℕ → List Scaled
choices_of q s = scaled_state q.one q.model.now (plain_objective q.objective) s
