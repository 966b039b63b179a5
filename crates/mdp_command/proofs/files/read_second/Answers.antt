use Rattle.std.proofs.Common.{Ok, Err, ap, inl}
use Rattle.mdp_job.specs.Refusal.{long_certificate}
use Rattle.mdp_command.proofs.FileBytes.{long_is_due, not_failed}
use Rattle.mdp_command.proofs.files.read_second.Goals as goal

pub returns-in-Err-Long-clause-read : goal.returns-in-Err-Long-clause-read
returns-in-Err-Long-clause-read g c = inl (long_is_due long_certificate (λ bytes. Ok bytes) _ (c.in-Err-Long.ensures.long (ap Err c.in-Err-Long.field-0-is)), not_failed c.in-Err-Long.ensures.still (λ h. cc h))
