use Rattle.std.proofs.Common.{arith}
use Rattle.mdp_num.proofs.Scale.{ten-le}
use Rattle.mdp_num.proofs.numeral.power_of_ten.Goals as goal

pub pow-requires : goal.pow-requires
pow-requires c = omega (arith, ten-le c.args.exponent c.requires)
