use Rattle.std.proofs.Common.{◌≡◌, Result, sym, ap, subst}
use Rattle.mdp_spec.specs.Mdp.{Mdp}
use Rattle.mdp_drn.specs.{Outcome.{◌>>=◌, Refusal}, Reading.{Document, at_end}, Feeding.{Gives}}
use Rattle.mdp_drn.proofs.PiecesFed.FeedSteps.{fails_then}
use Rattle.mdp_drn.proofs.document.Document.end.Goals as goal

pub returns-in-Ok : goal.returns-in-Ok
returns-in-Ok c =
    subst (λ (due : Result Mdp Refusal). Gives (λ (x : Mdp) (y : Mdp). x ≡ y) c.finish.result due)
    (sym (ap (λ (r : Result Document Refusal). r >>= at_end) c.in-Ok.ensures.taken)) c.finish.ensures

pub returns-in-Err : goal.returns-in-Err
returns-in-Err c = fails_then _ c.in-Err.refused c.in-Err.ensures.taken
