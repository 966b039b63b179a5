use Rattle.std.proofs.Common.{arith}
use Rattle.mdp_gain.proofs.Given.{policy-below}
use Rattle.mdp_graph.proofs.Collecting.{collected, all_collected}
use Rattle.mdp_unichain.specs.Component.{count}
use Rattle.mdp_gain.specs.Code.{component_in}
use Rattle.mdp_gain.proofs.chosen.Chosen.rewards.Goals as goal

pub reward-requires-clause-choice : goal.reward-requires-clause-choice
reward-requires-clause-choice c =
    policy-below c.args.self.now c.loop-s.s (omega (arith, c.loop-s-test.true, c.count-s-end.ensures))

pub loop-s-preserved : goal.loop-s-preserved
loop-s-preserved c = collected _ c.loop-s.s _ _ _ c.loop-s.invariant (c.in_ok-push.ensures {u = tt}).items c.reward.ensures

pub returns : goal.returns
returns c = all_collected _ (count (component_in c.args.self.now.component)) c.loop-s.s _ c.loop-s.invariant (omega arith)
