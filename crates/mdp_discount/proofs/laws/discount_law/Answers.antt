use Rattle.mdp_discount.proofs.{OneEnd.{one_query_end, answers_meet, answers_best}, AnEnd.{has_an_end}}
use Rattle.mdp_discount.proofs.laws.discount_law.Goals as goal

pub returns : goal.returns
returns c = record {
  bound = c.discount_rules_law.ensures.bound;
  one_value = c.discount_rules_law.ensures.one_value;
  one_end = one_query_end;
  ends = has_an_end c.path_law.ensures.one_end c.path_law.ensures.best;
  rules = answers_meet c.path_law.ensures.best;
  best = answers_best c.path_law.ensures.best;
  accepted = c.discount_rules_law.ensures.accepted;
  true_claim = c.discount_rules_law.ensures.true_claim;
}
