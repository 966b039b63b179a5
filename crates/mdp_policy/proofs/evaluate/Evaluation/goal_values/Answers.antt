use Rattle.std.proofs.Common.{◌∙◌}
use Rattle.mdp_horizon.proofs.More.{more}
use Rattle.mdp_policy.proofs.evaluate.Evaluation.goal_values.Goals as goal

pub loop-s-preserved : goal.loop-s-preserved
loop-s-preserved c = (c.in_ok-push.ensures {u = tt}).items ∙ more _ c.loop-s.s _ _ c.loop-s.invariant c.goal_value.ensures
