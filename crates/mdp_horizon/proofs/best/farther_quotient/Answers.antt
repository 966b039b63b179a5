use Rattle.std.proofs.Common.{◌∙◌, sym, to_z-of_z}
use Rattle.mdp_horizon.proofs.Past.{farther_kept, reached_same}
use Rattle.mdp_horizon.proofs.best.farther_quotient.Goals as goal

pub returns-else-past : goal.returns-else-past
returns-else-past c =
    to_z-of_z c.ranges.far
    ∙ sym (farther_kept c.args.dir c.args.far c.args.n c.args.d c.requires.positive
    (reached_same c.args.dir c.args.far c.args.n c.args.d _ _ _ (to_z-of_z c.ranges.far) (to_z-of_z c.ranges.n) (to_z-of_z c.ranges.d) (c.is_past-past.ensures c.if-past.false)))
