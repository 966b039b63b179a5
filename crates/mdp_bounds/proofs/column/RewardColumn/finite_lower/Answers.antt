use Rattle.std.proofs.Common.{Bool, refl, ap, ◌∙◌}
use Rattle.mdp_farkas.specs.{Reward.{rank_fall_checks}, Verdict.{objection_to}}
use Rattle.mdp_bounds.specs.Reward.{lower_on_each, finite_checks}
use Rattle.mdp_bounds.proofs.Parts.{both, handed}
use Rattle.mdp_bounds.proofs.column.RewardColumn.finite_lower.Goals as goal

pub returns-in_err-finite : goal.returns-in_err-finite
returns-in_err-finite c =
    let x = c.args.self in
    handed _ _ _ c.from_residual.ensures.1
    (both (finite_checks (lower_on_each x.dir) x.dir x.model.now x.name x.values.now c.args.s c.args.c) (rank_fall_checks x.dir x.model.now x.ranks.now c.args.s c.args.c) _ _
    (c.in_err-finite.ensures {u = tt} ∙ ap (λ (e : Bool). objection_to (finite_checks e x.dir x.model.now x.name x.values.now c.args.s c.args.c)) c.lower_on_each.ensures) refl)

pub returns : goal.returns
returns c =
    let x = c.args.self in
    both (finite_checks (lower_on_each x.dir) x.dir x.model.now x.name x.values.now c.args.s c.args.c) (rank_fall_checks x.dir x.model.now x.ranks.now c.args.s c.args.c) _ _
    (c.in_ok-finite.ensures {u = tt} ∙ ap (λ (e : Bool). objection_to (finite_checks e x.dir x.model.now x.name x.values.now c.args.s c.args.c)) c.lower_on_each.ensures) c.rank_falls_at_state.ensures
