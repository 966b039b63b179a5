use Rattle.std.proofs.Common.{◌∙◌, refl, arith}
use Rattle.mdp_graph.proofs.Collecting.{collected, all_collected}
use Rattle.mdp_gain.proofs.start.one_state.Goals as goal

pub loop-s-preserved : goal.loop-s-preserved
loop-s-preserved c = collected _ c.loop-s.s _ _ _ c.loop-s.invariant (c.in_ok-push.ensures {u = tt}).items refl

pub returns : goal.returns
returns c = c.from_values.ensures ∙ all_collected _ (c.args.states) c.loop-s.s _ c.loop-s.invariant (omega arith)
