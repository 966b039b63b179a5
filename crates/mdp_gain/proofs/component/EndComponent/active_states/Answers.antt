use Rattle.std.proofs.Common.{◌∙◌, arith}
use Rattle.mdp_graph.proofs.Collecting.{collected, all_collected}
use Rattle.mdp_unichain.specs.Component.{count}
use Rattle.mdp_gain.specs.Code.{component_in}
use Rattle.mdp_gain.proofs.component.EndComponent.active_states.Goals as goal

pub loop-s-preserved : goal.loop-s-preserved
loop-s-preserved c = collected _ c.loop-s.s _ _ _ c.loop-s.invariant (c.in_ok-push.ensures {u = tt}).items c.is_active.ensures

pub returns : goal.returns
returns c = c.from_values.ensures ∙ all_collected _ (count (component_in c.args.self.now)) c.loop-s.s _ c.loop-s.invariant (omega arith)
