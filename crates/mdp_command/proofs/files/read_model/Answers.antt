use Rattle.std.proofs.Common.{Ok, inl}
use Rattle.mdp_command.proofs.FileBytes.{short_is_due, not_failed}
use Rattle.mdp_command.proofs.files.read_model.Goals as goal

pub returns-in-Ok-clause-read : goal.returns-in-Ok-clause-read
returns-in-Ok-clause-read g c = inl (short_is_due c.args.rule _ (Ok c.in-Ok.model) (c.in-Ok.ensures.read tt), not_failed c.in-Ok.ensures.still (λ h. cc h))
