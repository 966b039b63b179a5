use Rattle.std.proofs.Common.{refl}
use Rattle.mdp_farkas.specs.Reward.{stay_checks}
use Rattle.mdp_bounds.specs.Reward.{half_checks}
use Rattle.mdp_bounds.proofs.Parts.{both, handed}
use Rattle.mdp_bounds.proofs.column.RewardColumn.finite.Goals as goal

pub returns-in_err-stays_at_state : goal.returns-in_err-stays_at_state
returns-in_err-stays_at_state c =
    let x = c.args.self in
    handed _ _ _ c.from_residual.ensures.1
    (both (stay_checks x.dir x.model.now x.values.now c.args.s c.args.c) (half_checks c.args.each x.dir x.model.now x.name x.values.now c.args.s c.args.c) _ _
    (c.in_err-stays_at_state.ensures {u = tt}) refl)

pub returns : goal.returns
returns c =
    let x = c.args.self in
    both (stay_checks x.dir x.model.now x.values.now c.args.s c.args.c) (half_checks c.args.each x.dir x.model.now x.name x.values.now c.args.s c.args.c) _ _
    (c.in_ok-stays_at_state.ensures {u = tt}) c.half.ensures
