use Rattle.mdp_discount_rules.proofs.{BoundsRules.{discount_never_no}, BoundsTelling.{discount_refuted}, BoundsSaying.{discount_says}}
use Rattle.mdp_discount_rules.proofs.bounds_laws.discount_bounds_no_law.Goals as goal

pub returns : goal.returns
returns c = record {
  never_no = λ dir m r f lower upper remainder policy fault known rules. discount_never_no dir m r f lower upper remainder policy known rules fault;
  refuted = discount_refuted;
  says = discount_says;
}
