-- What is shown of the text that gives the value of a policy.
use Rattle.std.specs.Prelude.{◌≡◌, ℕ, List, Option, Some, None, Ok}
use Rattle.mdp_spec.specs.Mdp.{Mdp}
use Rattle.mdp_policy.specs.{Answer.{IsAnswerOn}, Bounds.{PolicyBound, AreGreatest, SomeTreePasses, DeepTreesStayBelow}, Spelling.{value_text}, Text.{FitsText, policy_text}}
use Rattle.mdp_policy.specs.{Written.{Answer}, declared.value.Change.{Change}}
use Rattle.mdp_command_policy.specs.{Due.{marks_due}, declared.marking.Marked.{Marked}}

-- the text of the value of a policy, with the states of the label as goals and, where it is asked, those of the label `stay` on the way
pub record IsValuePrinted (stay : Option (List ℕ)) (label : List ℕ) (m : Mdp) (policy text : List ℕ) : Type 0 where
  pub marks : Marked
  pub found : marks_due stay label m ≡ Ok marks
  pub answer : Answer
  pub spelled : text ≡ value_text stay label m answer
  pub computed : IsAnswerOn m marks.stays marks.goals policy (Ok answer)
  -- the values are the probabilities with which the policy comes to a goal
  pub bound : PolicyBound m marks.stays marks.goals answer.values policy
  -- where no change is named that raises a value, they are the greatest probabilities, and the policy comes close to them
  pub greatest : answer.up ≡ None → AreGreatest m marks.stays marks.goals answer.values policy
  -- a change that is named is better: from its state one comes to a goal with a greater probability, or with a smaller one
  pub raises : (change : Change) → answer.up ≡ Some change → SomeTreePasses m marks.stays marks.goals answer.values change.state
  pub lowers : (change : Change) → answer.down ≡ Some change → DeepTreesStayBelow m marks.stays marks.goals answer.values change.state

-- the bytes are the text of a policy, and that is printed of it
pub record IsPolicyPrinted (stay : Option (List ℕ)) (label : List ℕ) (m : Mdp) (policy_bytes text : List ℕ) : Type 0 where
  pub policy : List ℕ
  pub fits : FitsText policy
  pub text_of : policy_bytes ≡ policy_text policy
  pub printed : IsValuePrinted stay label m policy text
