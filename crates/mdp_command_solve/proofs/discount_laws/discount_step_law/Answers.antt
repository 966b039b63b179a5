use Rattle.mdp_command_solve.proofs.DiscountSolved.{discount_once, text_is_accepted, text_is_answer}
use Rattle.mdp_command_solve.proofs.discount_laws.discount_step_law.Goals as goal

pub returns : goal.returns
returns c = record {
  once = discount_once c.discount_law.ensures.one_end;
  accepted = text_is_accepted;
  answer = text_is_answer c.discount_law.ensures.rules c.discount_law.ensures.best;
}
