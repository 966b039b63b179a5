use Rattle.std.proofs.{Common.{◌∙◌}, lemmas.Int.{to_z_pos}}
use mir.Syntax.{w128}
use Rattle.mdp_num.proofs.Values.{value_of_terms, result-bits}
use Rattle.mdp_num.proofs.frac.Frac.from_lowest.Goals as goal

pub returns : goal.returns
returns c = value_of_terms _ _ _ (result-bits _ c.with_sign.type_inv ∙ c.with_sign.ensures) (to_z_pos w128 c.args.den c.requires.den_fits)
