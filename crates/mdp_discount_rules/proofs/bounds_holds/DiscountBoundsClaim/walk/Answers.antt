use Rattle.std.proofs.Common.{ℕ, [], ◌∷◌, refl, ap, ◌∙◌}
use Rattle.std.specs.List.{slice_index, flat_map, range_with_len}
use Rattle.mdp_farkas.specs.Verdict.{objection_to}
use Rattle.mdp_bounds.proofs.Parts.{both, handed}
use Rattle.mdp_discount_rules.specs.BoundsChecks.{bounds_at, remainder_check, state_checks}
use Rattle.mdp_discount_rules.proofs.bounds_holds.DiscountBoundsClaim.walk.Goals as goal

pub returns-in_err-each_below : goal.returns-in_err-each_below
returns-in_err-each_below c =
    let x = c.args.self in
    let checks = λ (s : ℕ). bounds_at x.dir x.model.now x.name x.factor.now x.lower.now x.upper.now s (slice_index x.choices.now s) in
    handed _ _ _ c.from_residual.ensures.1
    (both (state_checks x.dir x.model.now x.name x.factor.now x.lower.now x.upper.now x.choices.now)
    (remainder_check x.lower.now x.upper.now c.args.remainder.now ∷ []) _ _ (c.in_err-each_below.ensures {u = tt} ∙ ap (λ (n : ℕ). objection_to (flat_map checks (range_with_len 0 n))) c.states.ensures) refl)

pub returns : goal.returns
returns c =
    let x = c.args.self in
    let checks = λ (s : ℕ). bounds_at x.dir x.model.now x.name x.factor.now x.lower.now x.upper.now s (slice_index x.choices.now s) in
    both (state_checks x.dir x.model.now x.name x.factor.now x.lower.now x.upper.now x.choices.now)
    (remainder_check x.lower.now x.upper.now c.args.remainder.now ∷ []) _ _ (c.in_ok-each_below.ensures {u = tt} ∙ ap (λ (n : ℕ). objection_to (flat_map checks (range_with_len 0 n))) c.states.ensures) c.remainder.ensures
