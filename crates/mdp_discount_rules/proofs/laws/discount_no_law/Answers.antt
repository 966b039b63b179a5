use Rattle.mdp_discount_rules.proofs.{DiscountRules.{discount_never_no}, Telling.{discount_refuted}, Saying.{discount_says_all}}
use Rattle.mdp_discount_rules.proofs.laws.discount_no_law.Goals as goal

pub returns : goal.returns
returns c = record {
  never_no = λ dir m r f v remainder policy fault rules. discount_never_no dir m r f v remainder policy rules fault;
  refuted = discount_refuted;
  says = discount_says_all;
}
