use Rattle.std.proofs.Common.{◌∙◌}
use Rattle.mdp_farkas.proofs.Entries.{all_of_row}
use Rattle.mdp_farkas.proofs.targets.each_target.Goals as goal

pub returns : goal.returns
returns g c = c.all_pass.ensures ∙ all_of_row (g.T.StateTest.test c.args.test) c.row.result.targets.now c.row.result.probs.now _ c.row.result.same_length c.row.ensures.row
