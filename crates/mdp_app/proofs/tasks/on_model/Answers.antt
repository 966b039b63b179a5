use Rattle.mdp_command.proofs.Working.{model_refused, model_worked, shown_of}
use Rattle.mdp_app.proofs.tasks.on_model.Goals as goal

pub returns-in-Err-clause-read : goal.returns-in-Err-clause-read
returns-in-Err-clause-read g c = model_refused _ _ _ _ _ c.in-Err.ensures.read

pub returns-in-Ok-clause-read : goal.returns-in-Ok-clause-read
returns-in-Ok-clause-read g c = model_worked _ _ _ _ _ _ c.in-Ok.ensures.read c.answer_to.ensures.due (shown_of _ _ _ _ c.answer_to.ensures.printed)
