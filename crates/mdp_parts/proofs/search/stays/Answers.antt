use Rattle.std.proofs.Common.{refl, ◌∙◌}
use Rattle.mdp_parts.proofs.Forbidding.{keeps_by}
use Rattle.mdp_parts.proofs.search.stays.Goals as goal

pub returns : goal.returns
returns c = c.all_in.ensures ∙ keeps_by c.args.model.now c.args.parts.now c.args.s c.args.c _ c.row.result.targets.now c.row.result.probs.now c.row.result.same_length c.row.ensures.row refl
