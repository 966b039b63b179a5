use Rattle.mdp_app.proofs.Answering.{answered, work_done, complete}
use Rattle.mdp_app.proofs.run.run.Goals as goal

pub returns-clause-answer : goal.returns-clause-answer
returns-clause-answer g c = answered _ _ _ _ _ _ c.answer_to_words-answer.ensures c.write_answer.ensures

pub returns-clause-done : goal.returns-clause-done
returns-clause-done g c is = work_done _ _ _ _ _ _ c.answer_to_words-answer.ensures.done c.write_answer.ensures is

pub returns-clause-complete : goal.returns-clause-complete
returns-clause-complete g c = complete _ _ _ _ _ (record {
  models = c.model_law.ensures;
  solve_once = c.solve_law.ensures.once;
  witness_once = c.witness_step_law.ensures.once;
  discount_once = c.discount_step_law.ensures.once;
  drill_once = c.drill_law.ensures.once;
  bounds_text = c.bounds_search_law.ensures.refusals;
  bounds_discount_text = c.bounds_discount_search_law.ensures.refusals;
  bounds_witness_text = c.bounds_witness_law.ensures.refusals;
}) (returns-clause-answer g c)
