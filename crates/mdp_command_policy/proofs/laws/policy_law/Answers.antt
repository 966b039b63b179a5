use Rattle.mdp_command_policy.proofs.{Due.{policy_once}, Printing.{printed_of_due}}
use Rattle.mdp_command_policy.proofs.laws.policy_law.Goals as goal

pub returns : goal.returns
returns c = record {
  once = policy_once;
  value = λ stay label m bytes text mdp due.
      printed_of_due c.along_law.ensures.falls c.along_law.ensures.rest c.solution_law.ensures.solves stay label m mdp text c.policy_text_law.ensures.read bytes due;
}
