use Rattle.mdp_drn.specs.BodyView.{view}
use Rattle.mdp_drn.proofs.LinesRead.CountsAtEnd.{model_given, end_fails}
use Rattle.mdp_drn.proofs.body.Body.finish.Goals as goal

pub returns-in-Ok : goal.returns-in-Ok
returns-in-Ok c = model_given c.args.line c.args.choices (view c.args.self) c.in-Ok.model c.with_choices.result c.in-Ok.ensures.model c.with_choices.ensures

pub returns-in-Err : goal.returns-in-Err
returns-in-Err c = end_fails c.args.line c.args.choices (view c.args.self) c.in-Err.error c.refusal.result c.refusal.ensures (c.in-Err.ensures.refusal c.requires.unrefused)
