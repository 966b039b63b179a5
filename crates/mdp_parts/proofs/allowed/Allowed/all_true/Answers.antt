use Rattle.std.proofs.Common.{◌+◌, arith}
use Rattle.std.specs.Vec.{vec_len}
use Rattle.mdp_graph.proofs.FlatWaiting.{one_more}
use Rattle.mdp_parts.proofs.AllAllowed.{choice_counts, length-counts, count_at, lists_are}
use Rattle.mdp_parts.proofs.allowed.Allowed.all_true.Goals as goal

pub loop-s-preserved : goal.loop-s-preserved
loop-s-preserved c =
    one_more c.loop-s.values.items c.resize.new.self.items c.loop-s.starts.items c.push-in-loop-s.new.self.items (choice_counts c.args.model.now)
    c.loop-s.s c.choices.result (vec_len c.loop-s.values) (c.len.result + c.choices.result) c.len-in-loop-s.result
    (omega arith) c.loop-s.invariant (omega (arith, length-counts c.args.model.now))
    (count_at c.args.model.now c.loop-s.s c.choices.result (omega arith) c.choices.ensures)
    (omega arith) c.in_ok-resize.ensures.items c.in_ok-push-2.ensures.items (omega (arith, c.in_ok-resize.ensures.len))

pub returns : goal.returns
returns c = lists_are c.args.model.now _ _ c.loop-s.s c.loop-s.invariant (omega arith)
