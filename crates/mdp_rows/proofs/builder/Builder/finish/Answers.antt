use Rattle.std.proofs.Common.{◌≡◌, subst}
use Rattle.std.specs.{Prelude.{Err}, Option.{IfSome}}
use Rattle.mdp_rows.specs.Draft.{Draft}
use Rattle.mdp_rows.proofs.SoundCalls.{after_finish-sound}
use Rattle.mdp_rows.proofs.builder.Builder.finish.Goals as goal

pub finish-requires : goal.finish-requires
finish-requires c = record { whole = λ n m h. after_finish-sound c.self.inside.assembly m (c.self.invariant n) h }

pub returns-clause-again : goal.returns-clause-again
returns-clause-again c = subst (λ (d : Draft). IfSome d.refused (λ e. c.finish.result ≡ Err e)) c.self.view_is c.finish.ensures.again
