use Rattle.std.proofs.Common.{◌≡◌, ℤ, List, map, rules, ap, ap₂, ◌∙◌, arith}
use mir.Syntax.{w128}
use mir.Val.{to_z, of_z}
use Rattle.mdp_math.specs.Rational.{ℚ}
use Rattle.mdp_spec.specs.{Row.{entries}, Mdp.{Entry, choices_at, no_choice}}
use Rattle.mdp_horizon.specs.{Scaled.{scaled}, Columns.{scaled_choice}, Code.{plain_objective}, BoundsCode.{plain_choice}}
use Rattle.mdp_horizon.proofs.More.{seen_taken}
use Rattle.mdp_horizon.proofs.columns.Query.scaled_state.Goals as goal

pub loop-c-preserved : goal.loop-c-preserved
loop-c-preserved c =
    let one = c.args.self.one in
    let same : to_z w128 (of_z w128 one) ≡ one = search rules in
    ap (map plain_choice) (c.in_ok-push.ensures {u = tt}).items
    ∙ seen_taken plain_choice (scaled_choice one (plain_objective c.args.self.objective)) (choices_at c.args.self.model.now c.args.s) c.loop-c.c no_choice c.loop-c.choices.items
    c.in_ok-scaled.field-0 (omega arith) c.loop-c.invariant
    (c.in_ok-scaled.ensures {u = tt} ∙ ap (λ (z : ℤ). scaled z c.earns-start.result (entries c.row.result.targets.now c.row.result.probs.now)) same
    ∙ ap₂ (λ (start : ℚ) (row : List Entry). scaled one start row) c.earns-start.ensures c.row.ensures.row)
