use Rattle.mdp_reward.proofs.Answering.{pass_laws}
use Rattle.mdp_command_bounds_search.proofs.{SomeText.{has_a_text}, Solved.{text_lies_between, only_texts_are_due, text_is_accepted}}
use Rattle.mdp_command_bounds_search.proofs.laws.bounds_search_law.Goals as goal

pub returns : goal.returns
returns c = record {
  text = has_a_text c.bounds_text_law.ensures.back c.bounds_checking_law.ensures.bound c.path_law.ensures.best c.avoid_law.ensures.rest
      (pass_laws c.sure_all_law.ensures.stays c.meet_law.ensures.rest c.along_law.ensures.falls c.along_law.ensures.rest c.rounds_law.ensures.fall c.rounds_law.ensures.zero)
      c.query_law.ensures.ends c.query_law.ensures.rules c.query_law-2.ensures.ends c.query_law-2.ensures.rules c.mean_law.ensures.ends c.mean_law.ensures.rules c.mean_law.ensures.made;
  between = text_lies_between c.bounds_checking_law.ensures.bound;
  refusals = only_texts_are_due;
  accepted = text_is_accepted;
}
