use Rattle.std.proofs.Common.{[], ◌∷◌, refl}
use Rattle.mdp_bounds.specs.Mean.{spread_check, state_bounds_checks}
use Rattle.mdp_bounds.proofs.Parts.{both, handed}
use Rattle.mdp_bounds.proofs.mean.MeanBoundsClaim.walk.Goals as goal

pub returns-in_err-each_below : goal.returns-in_err-each_below
returns-in_err-each_below c =
    let x = c.args.self in
    handed _ _ _ c.from_residual.ensures.1
    (both (state_bounds_checks x.dir x.model.now x.name x.lower.values.now x.upper.values.now x.bound.now x.bias.now x.choices.now)
    (spread_check x.bound.now x.bias.now c.args.spread.now ∷ []) _ _ (rw c.states.ensures at (c.in_err-each_below.ensures {u = tt})) refl)

pub returns : goal.returns
returns c =
    let x = c.args.self in
    both (state_bounds_checks x.dir x.model.now x.name x.lower.values.now x.upper.values.now x.bound.now x.bias.now x.choices.now)
    (spread_check x.bound.now x.bias.now c.args.spread.now ∷ []) _ _ (rw c.states.ensures at (c.in_ok-each_below.ensures {u = tt}))
    (rw c.spread_holds-holds.ensures at c.judged_at.ensures)
