-- A policy's evaluation, and what its values are compared with, handed to a definition.
use Rattle.std.specs.Prelude.{ℕ, Bool, List}
use Rattle.mdp_math.specs.Rational.{ℚ}
use Rattle.mdp_spec.specs.Mdp.{Mdp}
use Rattle.mdp_elim.specs.System.{Leaves}
use Rattle.mdp_rows.specs.declared.dir.Dir.{Dir}
use Rattle.mdp_reach.specs.Query.{policy_rows}
use Rattle.mdp_policy.specs.{Written.{under_way}, declared.evaluate.Evaluation.{Evaluation}, declared.compare.Comparison.{Comparison}}

abbrev pub for_policy : {A : Type 0} → Evaluation → (Mdp → List Bool → List Bool → List ℕ → A) → A
for_policy e f = f e.model.now e.goals.now e.marks.now e.policy.now

abbrev pub states_under_way : Evaluation → List Bool
states_under_way e = under_way e.model.now e.goals.now e.marks.now

-- by the policy's rows each state that is under way leaves
abbrev pub AllLeave : Evaluation → Type 0
AllLeave e = (ranks : List ℕ) × Leaves (policy_rows e.model.now e.policy.now) (states_under_way e) ranks

-- values, and with the goals
abbrev pub for_values : {A : Type 0} → Comparison → (Dir → Mdp → List ℚ → A) → A
for_values x f = f x.dir x.model.now x.values.now

abbrev pub for_goals : {A : Type 0} → Comparison → (Dir → Mdp → List Bool → List ℚ → A) → A
for_goals x f = f x.dir x.model.now x.goals.now x.values.now
