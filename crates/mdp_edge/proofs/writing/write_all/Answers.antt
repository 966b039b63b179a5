use Rattle.std.proofs.{Common.{◌∙◌, arith}, lemmas.Grind.{common_steps}}
use Rattle.mdp_edge.proofs.Pieces.{took_next}
use Rattle.mdp_edge.proofs.writing.write_all.Goals as goal

pub writing-preserved : goal.writing-preserved
writing-preserved g c =
    let room = c.in-Ok.ensures.room in record {
      within = grind (arith, common_steps, room);
      took = took_next _ _ _ _ _ _ c.writing.invariant.took c.in-Ok.ensures.bytes;
      unsettled = c.in-Ok.ensures.settled ∙ c.writing.invariant.unsettled;
      still = c.in-Ok.ensures.still ∙ c.writing.invariant.still;
    }
