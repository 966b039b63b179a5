-- What is due to a drill: the greatest probability of reaching the goal of a layered model.
use Rattle.std.specs.Prelude.{◌≡◌, ℕ, Bool, List, ◌++◌, length, sum_by, None, Result, Ok, Err, decimal, codes}
use Rattle.mdp_math.specs.Rational.{ℚ}
use Rattle.mdp_num.specs.Value.{spelling}
use Rattle.mdp_spec.specs.{Labels.{marks_of}, Mdp.{Mdp, states_of, value_at}}
use Rattle.mdp_rows.specs.declared.dir.Dir.TheVariants.{Max}
use Rattle.mdp_wide.specs.Term.{WideTerm}
use Rattle.mdp_reach.specs.Query.{Answer, EndsSo}
use Rattle.mdp_gen.specs.Layered.{layered_model}
use Rattle.mdp_job.specs.Text.{line}
use Rattle.mdp_command_solve.specs.Due as solve
use Rattle.mdp_command.specs.Said.{Said}

-- the label `goal` has the second place in each layered model
abbrev pub goal_place : ℕ
goal_place = 1

abbrev pub goals : Mdp → List Bool
goals m = marks_of m goal_place

-- the numbers of the drill and of the model, and the value of state 0
abbrev pub drill_text : ℕ → ℕ → ℕ → ℕ → ℕ → ℚ → List ℕ
drill_text number layers width states choices value =
    line (codes "drill " ++ decimal number ++ codes " " ++ decimal layers ++ codes " " ++ decimal width ++ codes " states " ++ decimal states ++ codes " choices " ++ decimal choices
    ++ codes " value " ++ spelling value ++ codes " yes")

-- the line of an answer, in a model's own numbers
abbrev pub text_of_answer : ℕ → ℕ → ℕ → Mdp → Answer → List ℕ
text_of_answer number layers width m a = drill_text number layers width (states_of m) (sum_by (λ x. length x.choices) m.states) (value_at a.values 0)

-- what is said of an end of the query; a term past width is said as `solve` says it
abbrev pub said_of_end : ℕ → ℕ → ℕ → Mdp → Result Answer WideTerm → Said
said_of_end number layers width m (Ok a) = Ok (text_of_answer number layers width m a)
said_of_end number layers width m (Err w) = solve.said_of_end Max None (codes "goal") m (Err w)

-- the query with the goal of the layered model ends, and this is said of its end
abbrev pub IsDueOf : ℕ → ℕ → ℕ → Mdp → Said → Type 0
IsDueOf number layers width m said = (end : Result Answer WideTerm) × EndsSo Max m (goals m) end × (said ≡ said_of_end number layers width m end)

abbrev pub IsDrillDue : ℕ → ℕ → ℕ → Said → Type 0
IsDrillDue number layers width said = IsDueOf number layers width (layered_model number layers width) said
