use Rattle.mdp_num.proofs.Past.{halves}
use Rattle.mdp_num.proofs.frac.high_product.Goals as goal

pub returns : goal.returns
returns c = halves c.args.a c.args.b c.from.result c.from-2.result c.from.ensures c.from-2.ensures
