use Rattle.mdp_checker.proofs.Running.{answered, yes_true, of_text, complete}
use Rattle.mdp_checker.proofs.run.run.Goals as goal

pub returns-clause-answer : goal.returns-clause-answer
returns-clause-answer g c = answered _ _ _ _ _ _ c.answer_to_words-answer.ensures c.write_answer.ensures

pub returns-clause-done : goal.returns-clause-done
returns-clause-done g c is = yes_true _ _ _ _ c.model_law.ensures c.check_law.ensures.text _ _ c.answer_to_words-answer.ensures c.write_answer.ensures is

pub returns-clause-done_of_text : goal.returns-clause-done_of_text
returns-clause-done_of_text g c is = of_text _ _ _ c.written_law.ensures.reads_back _ (returns-clause-done g c is)

pub returns-clause-complete : goal.returns-clause-complete
returns-clause-complete g c = complete _ _ _ _ c.check_law.ensures.accepted _ (returns-clause-answer g c)
