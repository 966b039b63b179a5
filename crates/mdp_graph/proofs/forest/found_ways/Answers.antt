use Rattle.mdp_graph.proofs.Seeking.{found_more}
use Rattle.mdp_graph.proofs.forest.found_ways.Goals as goal

pub loop-s-preserved : goal.loop-s-preserved
loop-s-preserved c =
    found_more c.args.model.now c.args.goals.now c.args.allowed.now c.args.ways.now c.args.states.now c.loop-s.found.items c.push.new.self.items c.loop-s.s-index c.new_way.result
    c.loop-s.invariant c.new_way.ensures c.in_ok-push.ensures.items
