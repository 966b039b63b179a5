use Rattle.std.proofs.{Common.{arith}, lemmas.Grind.{common_steps}}
use Rattle.mdp_edge.proofs.Pieces.{gave_both}
use Rattle.mdp_edge.proofs.reading.read_all.Goals as goal

pub returns-in_default-extend_from_slice-clause-rest :
    goal.returns-in_default-extend_from_slice-clause-rest
returns-in_default-extend_from_slice-clause-rest g c =
    let room = c.in-Ok.ensures.room in
    (_, grind (arith, common_steps, room), gave_both _ _ _ _ _ c.reading.invariant.gave c.in-Ok.ensures.bytes)

pub reading-preserved : goal.reading-preserved
reading-preserved g c = grind (arith, common_steps)
