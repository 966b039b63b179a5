use Rattle.std.proofs.{Common.{◌∙◌, ℕ, ◌<◌, length, sym, ap, subst}, lemmas.List.FromFn.{length-map-range_with_len}}
use Rattle.std.specs.List.{All}
use Rattle.mdp_policy.proofs.Solving.{under_way-len}
use Rattle.mdp_policy.proofs.evaluate.Evaluation.constant_of.Goals as goal

pub outer_sum-requires-clause-active : goal.outer_sum-requires-clause-active
outer_sum-requires-clause-active c =
    subst (λ (n : ℕ). All (λ t. t < n) c.row-row.result.targets.now) (sym (ap length c.requires.active ∙ under_way-len c.args.self.model.now c.args.self.goals.now c.args.self.marks.now))
    c.row-row.ensures.in_range

pub outer_sum-requires-clause-values : goal.outer_sum-requires-clause-values
outer_sum-requires-clause-values c =
    subst (λ (n : ℕ). All (λ t. t < n) c.row-row.result.targets.now) (sym (ap length c.requires.values ∙ length-map-range_with_len _ 0 _)) c.row-row.ensures.in_range
