use Rattle.mdp_check.proofs.{Starting.{init_is_checked}, InitialNo.{no_of_init}}
use Rattle.mdp_check.proofs.laws.start_law.Goals as goal

pub returns : goal.returns
returns c =
    let farkas = c.refuted_law.ensures in
    let parts = c.refuted_law-2.ensures in
    record { checked = init_is_checked; init = no_of_init farkas.upper farkas.reach farkas.reward farkas.mean parts.flow parts.floor }
