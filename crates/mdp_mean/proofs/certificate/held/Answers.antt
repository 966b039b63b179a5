use Rattle.std.proofs.Common.{◌∙◌, sym}
use Rattle.mdp_farkas.proofs.MeanRules.{mean_never_no}
use Rattle.mdp_mean.proofs.Held.{has-spread, has-policy}
use Rattle.mdp_mean.proofs.certificate.held.Goals as goal

pub holds_mean-requires-clause-bound : goal.holds_mean-requires-clause-bound
holds_mean-requires-clause-bound c = (has-spread c.args.model.now c.args.m c.args.cert.gains.items c.args.cert.bound.items
    c.args.cert.bias.items c.args.cert.spread c.args.cert.choices.items c.args.dir c.requires.rules).bounds

pub holds_mean-requires-clause-bias : goal.holds_mean-requires-clause-bias
holds_mean-requires-clause-bias c = (has-spread c.args.model.now c.args.m c.args.cert.gains.items c.args.cert.bound.items
    c.args.cert.bias.items c.args.cert.spread c.args.cert.choices.items c.args.dir c.requires.rules).biases

pub holds_mean-requires-clause-choices : goal.holds_mean-requires-clause-choices
holds_mean-requires-clause-choices c =
    (has-policy c.args.model.now c.args.m c.args.cert.gains.items c.args.cert.bound.items c.args.cert.bias.items c.args.cert.spread c.args.cert.choices.items c.args.dir c.requires.rules).one_each

pub unreachable-requires : goal.unreachable-requires
unreachable-requires c =
    mean_never_no c.args.model.now c.args.m c.args.cert.gains.items c.args.cert.bound.items c.args.cert.bias.items c.args.cert.spread c.args.cert.choices.items c.args.dir c.requires.rules
    c.in-No.field-0 (sym c.holds_mean.ensures.verdict ∙ c.in-No.is)
