use Rattle.std.proofs.Common.{◌∙◌}
use Rattle.mdp_rows.specs.Draft.{finished}
use Rattle.mdp_rows.proofs.{Assembled.Finished.{all_go, again_as}, Calls.Closes.{all_are_closed}}
use Rattle.mdp_rows.proofs.assembly.Assembly.finish.Goals as goal

pub returns-in-Err-clause-again : goal.returns-in-Err-clause-again
returns-in-Err-clause-again c = again_as _ c.in-Err.refusal c.args.self.refused (rw c.in-Err.is at c.close_all.ensures.again)

pub into_model-requires-clause-closed : goal.into_model-requires-clause-closed
into_model-requires-clause-closed c = all_are_closed c.args.self c.close_all.new.self (c.in-Ok.ensures {u = tt}).closed

pub into_model-requires-clause-whole : goal.into_model-requires-clause-whole
into_model-requires-clause-whole c =
    λ m h. c.requires.whole (c.in-Ok.ensures {u = tt}).unrefused m (all_go c.args.self finished c.close_all.new.self (c.in-Ok.ensures {u = tt}).closed ∙ h)
