use Rattle.mdp_command_bounds_search.proofs.{SomeDiscountText.{has_a_text}, DiscountSolved.{text_lies_between, only_texts_are_due, text_is_accepted}}
use Rattle.mdp_command_bounds_search.proofs.laws.bounds_discount_search_law.Goals as goal

pub returns : goal.returns
returns c = record {
  text = has_a_text c.discount_bounds_text_law.ensures.back c.discount_bounds_law.ensures.true_claim c.discount_law.ensures.ends c.discount_law.ensures.rules;
  between = text_lies_between c.discount_bounds_law.ensures.true_claim;
  refusals = only_texts_are_due;
  accepted = text_is_accepted;
}
