-- What is shown of the line of a drill.
use Rattle.std.specs.Prelude.{◌≡◌, ℕ, ◌+◌, ◌*◌, List, Some, None, Ok, codes}
use Rattle.mdp_spec.specs.{Bounds.{ReachMax}, Labels.{place_of}, Mdp.{value_at}}
use Rattle.mdp_rows.specs.{declared.dir.Dir.TheVariants.{Max}, declared.rule.RowRule.TheVariants.{Exact}}
use Rattle.mdp_reach.specs.Query.{Answer, EndsSo}
use Rattle.mdp_cert.specs.Spelling.{text_of}
use Rattle.mdp_gen.specs.{Layered.{layered_model}, Text.{generated_text}}
use Rattle.mdp_job.specs.Job.{reach}
use Rattle.mdp_command.specs.Shown.{IsShownOf}
use Rattle.mdp_command_solve.specs.{Due.{certificate_of}, Solved.{IsPrinted}, DrillDue.{goal_place, goals, drill_text}}

-- the states and the choices of the layered model, and the value of state 0 of the answer with which its query ends, whose values are the greatest
-- probabilities of reaching a state with the label `goal`
pub record GivesGreatest (number layers width : ℕ) (text : List ℕ) : Type 0 where
  pub answer : Answer
  pub spelled : text ≡ drill_text number layers width (layers * width + 2) (2 * (layers * width) + 2) (value_at answer.values 0)
  pub ends : EndsSo Max (layered_model number layers width) (goals (layered_model number layers width)) (Ok answer)
  pub labelled : place_of (codes "goal") (layered_model number layers width).labels ≡ Some goal_place
  pub greatest : ReachMax (layered_model number layers width) (goals (layered_model number layers width)) answer.values answer.choices

-- and of the text of that answer's certificate with the generated text, whose rows add to 1, is shown what is shown of a text of `solve`: so `check`
-- accepts it
pub record IsDrilled (number layers width : ℕ) (text : List ℕ) : Type 0 where
  pub given : GivesGreatest number layers width text
  pub solved : IsShownOf (IsPrinted Max (reach (codes "goal"))) Exact (generated_text number layers width)
      (text_of (certificate_of Max None (codes "goal") (layered_model number layers width) given.answer))
