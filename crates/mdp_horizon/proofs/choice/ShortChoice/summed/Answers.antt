use Rattle.std.proofs.Common.{length}
use Rattle.mdp_horizon.proofs.Ready.{short_below}
use Rattle.mdp_horizon.proofs.choice.ShortChoice.summed.Goals as goal

pub short_total-requires : goal.short_total-requires
short_total-requires c = short_below (length c.args.values.now) c.args.self.now.terms.terms.now c.requires.targets
