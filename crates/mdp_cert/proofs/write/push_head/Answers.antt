use Rattle.mdp_cert.proofs.Written.{three-parts}
use Rattle.mdp_cert.proofs.write.push_head.Goals as goal

pub returns-clause-text : goal.returns-clause-text
returns-clause-text c =
    let states = rw c.from.ensures at c.in_ok-push_number.ensures.text in three-parts _ _ _ _ _ _ _ _ c.in_ok-push_claim.ensures.text states c.push_init.ensures.text
