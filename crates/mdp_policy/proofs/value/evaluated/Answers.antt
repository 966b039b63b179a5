use Rattle.std.proofs.Common.{◌∙◌, length, ap}
use Rattle.mdp_policy.proofs.Solving.{evaluated-len}
use Rattle.mdp_policy.proofs.value.evaluated.Goals as goal

pub invariant_of-first_change : goal.invariant_of-first_change
invariant_of-first_change c =
    let e = c.args.evaluation in
    record {
      goals_each = e.goals_each;
      values_each = ap length c.deref.ensures.value ∙ evaluated-len e.model.now e.goals.now e.marks.now e.policy.now c.in_ok-values.values.items (c.in_ok-values.ensures {u = tt});
    }
