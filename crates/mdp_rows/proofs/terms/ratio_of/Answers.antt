use Rattle.std.proofs.Common.{◌∙◌}
use Rattle.mdp_rows.proofs.ClosedRows.Quotients.{quotient_read}
use Rattle.mdp_rows.proofs.terms.ratio_of.Goals as goal

pub returns : goal.returns
returns c = c.ok.ensures.value ∙ quotient_read c.args.n c.args.d _ c.requires.some c.requires.num c.requires.den c.try_new.ensures.value
