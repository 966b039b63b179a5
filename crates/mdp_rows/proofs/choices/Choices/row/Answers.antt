use Rattle.std.proofs.Common.{arith, ◌∙◌}
use Rattle.mdp_rows.proofs.Flat.Choices.{choices_len, row_is}
use Rattle.mdp_rows.proofs.choices.Choices.row.Goals as goal

pub row-requires : goal.row-requires
row-requires c = let n = choices_len _ _ c.self.view_is in omega (arith, n, c.requires)

pub returns : goal.returns
returns c = c.row.ensures ∙ row_is _ _ c.args.i c.self.view_is
