use Rattle.std.proofs.Common.{arith}
use Rattle.mdp_gain.proofs.Given.{count-is}
use Rattle.mdp_gain.proofs.chosen.Chosen.allow_at.Goals as goal

pub takes-requires : goal.takes-requires
takes-requires c = omega (arith, c.requires.state, count-is c.args.self.now.component)
