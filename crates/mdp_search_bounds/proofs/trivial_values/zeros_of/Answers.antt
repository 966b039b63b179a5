use Rattle.std.proofs.Common.{arith}
use Rattle.mdp_graph.proofs.Collecting.{collected, all_collected}
use Rattle.mdp_search_bounds.proofs.trivial_values.zeros_of.Goals as goal

pub loop-s-preserved : goal.loop-s-preserved
loop-s-preserved c = collected _ c.loop-s.s _ _ _ c.loop-s.invariant (c.in_ok-push.ensures {u = tt}).items c.zero_by.ensures

pub returns : goal.returns
returns c = all_collected _ c.args.states c.loop-s.s _ c.loop-s.invariant (omega arith)
