use Rattle.std.proofs.Common.{arith, length}
use Rattle.mdp_graph.proofs.Collecting.{collected, all_collected}
use Rattle.mdp_gain.proofs.classes.differing.Goals as goal

pub loop-s-preserved : goal.loop-s-preserved
loop-s-preserved c = collected _ c.loop-s.s _ _ _ c.loop-s.invariant (c.in_ok-push.ensures {u = tt}).items c.is_other.ensures

pub returns : goal.returns
returns c = all_collected _ (length c.args.policy.now) c.loop-s.s _ c.loop-s.invariant (omega arith)
