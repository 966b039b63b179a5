use Rattle.std.proofs.Common.{refl}
use Rattle.mdp_rows.proofs.Assembled.Refusals.{refused_now}
use Rattle.mdp_rows.proofs.assembly.Assembly.keep_refusal.Goals as goal

pub returns-in-Err-clause-refused : goal.returns-in-Err-clause-refused
returns-in-Err-clause-refused c = rw c.in-Err.is (refused_now _ c.in-Err.refusal refl)
