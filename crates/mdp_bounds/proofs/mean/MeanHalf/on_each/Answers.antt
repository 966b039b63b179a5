use Rattle.std.proofs.Common.{refl}
use Rattle.mdp_farkas.specs.Verdict.{at_choices}
use Rattle.mdp_bounds.specs.Mean.{gain_check, relative_check}
use Rattle.mdp_bounds.proofs.Parts.{both, handed}
use Rattle.mdp_bounds.proofs.mean.MeanHalf.on_each.Goals as goal

pub returns-in_err-each_choice : goal.returns-in_err-each_choice
returns-in_err-each_choice c =
    let x = c.args.self in
    handed _ _ _ c.from_residual.ensures.1
    (both (at_choices x.model.now x.state (gain_check x.dir x.model.now x.gains.values.now x.state))
    (at_choices x.model.now x.state (relative_check x.dir x.model.now x.name x.gains.values.now x.relative.now x.state)) _ _ (c.in_err-each_choice.ensures {u = tt}) refl)

pub returns : goal.returns
returns c =
    let x = c.args.self in
    both (at_choices x.model.now x.state (gain_check x.dir x.model.now x.gains.values.now x.state))
    (at_choices x.model.now x.state (relative_check x.dir x.model.now x.name x.gains.values.now x.relative.now x.state)) _ _ (c.in_ok-each_choice.ensures {u = tt}) c.each_choice-2.ensures
