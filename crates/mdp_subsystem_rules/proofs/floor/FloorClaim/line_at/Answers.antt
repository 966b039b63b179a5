use Rattle.std.proofs.{Common.{ℕ, ap, ◌∙◌, subst, sym, ◌<◌}, lemmas.List.{get_or_default}}
use Rattle.mdp_math.specs.Rational.{ℚ}
use Rattle.mdp_math.proofs.Order.{0ℚ}
use Rattle.mdp_spec.specs.Mdp.{value_at}
use Rattle.std.specs.List.{slice_index}
use Rattle.mdp_subsystem_rules.specs.FloorClaim.{rules_at}
use Rattle.mdp_farkas.specs.Verdict.{objection_to}
use Rattle.mdp_subsystem_rules.proofs.floor.FloorClaim.line_at.Goals as goal

pub returns : goal.returns
returns c =
    let x = c.args.self in
    let kept = x.cert.now.kept.items in
    let values = x.cert.now.values.items in
    let ranks = x.cert.now.ranks.items in
    let i = c.args.i in
    let line = c.requires in
    c.state_at.ensures
    ∙ ap (λ (s : ℕ). objection_to (rules_at x s c.index-2.result.now c.index-3.result.now)) (c.index.ensures ∙ get_or_default kept i c.index.result.now 0 line)
    ∙ ap (λ (value : ℚ). objection_to (rules_at x (slice_index kept i) value c.index-3.result.now))
    (c.index-2.ensures ∙ get_or_default values i c.index-2.result.now 0ℚ (subst (λ (n : ℕ). i < n) (sym x.shape.one_value_each) line))
    ∙ ap (λ (r : ℕ). objection_to (rules_at x (slice_index kept i) (value_at values i) r))
    (c.index-3.ensures ∙ get_or_default ranks i c.index-3.result.now 0 (subst (λ (n : ℕ). i < n) (sym x.shape.one_rank_each) line))
