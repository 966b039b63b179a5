-- What a drill finds on a model: an answer, of which the line gives the value of state 0.
use Rattle.std.specs.Prelude.{◌≡◌, ℕ, List, length, None, Ok, codes}
use Rattle.mdp_spec.specs.{Bounds.{ReachMax}, Mdp.{Mdp, states_of}}
use Rattle.mdp_rows.specs.declared.dir.Dir.TheVariants.{Max}
use Rattle.mdp_farkas.specs.Reach.{IsReach}
use Rattle.mdp_reach.specs.Query.{Answer, EndsSo}
use Rattle.mdp_cert.specs.Cert.{Fits}
use Rattle.mdp_command_solve.specs.{Due.{certificate_of}, DrillDue.{goals, text_of_answer}}

-- the query ends with this answer, which meets the rules of certificates, has one entry for each state and gives the greatest probabilities; and its
-- certificate has a text
pub record IsFound (m : Mdp) (a : Answer) : Type 0 where
  pub ends : EndsSo Max m (goals m) (Ok a)
  pub rules : IsReach Max m (goals m) a.values a.choices a.ranks
  pub greatest : ReachMax m (goals m) a.values a.choices
  pub values : length a.values ≡ states_of m
  pub ranks : length a.ranks ≡ states_of m
  pub fits : Fits (certificate_of Max None (codes "goal") m a)

-- the text is the line of such an answer
pub record IsLineOfFound (number layers width : ℕ) (m : Mdp) (text : List ℕ) : Type 0 where
  pub answer : Answer
  pub found : IsFound m answer
  pub spelled : text ≡ text_of_answer number layers width m answer
